use Rattle.std.proofs.Common.{◌∙◌, refl, sym}
use Rattle.garde_catalog.proofs.Judged.{is_seen, is_stray, judge_first, judge_good, judge_second, judge_unknown}
use Rattle.garde_catalog.proofs.template.template_fault.Goals.{then-not-seen-2-via-then-not-seen-2, then-not-seen-2-via-else-not-seen-2+then-not-seen-3}
use Rattle.garde_catalog.proofs.template.template_fault.Goals as goal

pub returns-in_default : goal.returns-in_default
returns-in_default c = sym (is_stray c.args.text.now c.args.first.now c.args.second.now (c.in_default.ensures.err refl))

pub returns-then-not-seen : goal.returns-then-not-seen
returns-then-not-seen c =
    let s = c.in-Ok.seen in
    sym (is_seen c.args.text.now c.args.first.now c.args.second.now s c.in-Ok.ensures.ok.0 c.in-Ok.ensures.ok.1
    ∙ judge_unknown s.all_known s.has_first s.has_second c.if-not-seen.true)

pub returns-then-not-seen-2 : goal.returns-then-not-seen-2
returns-then-not-seen-2 c =
    let s = c.in-Ok.seen in
    let seen = is_seen c.args.text.now c.args.first.now c.args.second.now s c.in-Ok.ensures.ok.0 c.in-Ok.ensures.ok.1 in
    elim c.then-not-seen-2.branch [
      | then-not-seen-2-via-then-not-seen-2 w ↦ sym (seen ∙ judge_first s.all_known s.has_first s.has_second c.if-not-seen.false w.if-not-seen-2.true)
      | then-not-seen-2-via-else-not-seen-2+then-not-seen-3 w ↦ sym (seen
          ∙ judge_second s.all_known s.has_first s.has_second c.if-not-seen.false w.if-not-seen-2.false w.if-not-seen-3.true)
    ]

pub returns : goal.returns
returns c =
    let s = c.in-Ok.seen in
    sym (is_seen c.args.text.now c.args.first.now c.args.second.now s c.in-Ok.ensures.ok.0 c.in-Ok.ensures.ok.1
    ∙ judge_good s.all_known s.has_first s.has_second c.if-not-seen.false c.if-not-seen-2.false c.if-not-seen-3.false)
