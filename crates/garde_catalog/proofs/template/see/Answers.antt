use Rattle.std.proofs.Common.{rules}
use Rattle.garde_catalog.specs.Template.{IsCut, IsPlain}
use Rattle.garde_catalog.proofs.Reading.{all_seen, has_fewer, has_more, has_none, one_more}
use Rattle.garde_catalog.proofs.template.see.Goals as goal

pub places-preserved : goal.places-preserved
places-preserved c =
    let i = c.in-Some.is in
    let w = c.in_ok-name.ensures.ok in
    let is_cut : IsCut c.places.rest.now c.in-Some.field-0-0.now c.in-Some.name.now c.in-Some.after.now = rw i at w in
    record {
      text = search rules;
      there = λ h. c.places.invariant.there (has_more c.places.rest.now c.in-Some.field-0-0.now c.in-Some.name.now c.in-Some.after.now is_cut h);
      back = λ h. has_fewer c.places.rest.now c.in-Some.field-0-0.now c.in-Some.name.now c.in-Some.after.now is_cut (c.places.invariant.back h);
      seen = one_more c.args.first.now c.args.second.now c.args.text.now c.places.rest.now c.in-Some.field-0-0.now c.in-Some.name.now c.in-Some.after.now
          c.places.seen c.with-seen.result is_cut c.places.invariant.seen c.with-seen.ensures.known c.with-seen.ensures.first c.with-seen.ensures.second;
    }

pub returns-clause-ok : goal.returns-clause-ok
returns-clause-ok c =
    let i = c.in_default.is in
    let w = c.in_ok-name.ensures.ok in
    let n = c.in_default.not-Some in
    let plain : IsPlain c.places.rest.now = rw i at w in (
      c.places.invariant.there (has_none c.places.rest.now plain),
      all_seen c.args.first.now c.args.second.now c.args.text.now c.places.rest.now c.places.seen plain c.places.invariant.seen,
    )
