use Rattle.std.proofs.Common.{◌≡◌, ◌∙◌, ◌++◌, [], None, Some, ap, arith, lit<, rules, string_bytes, sym}
use Rattle.std.proofs.lemmas.Grind.{common_steps}
use Rattle.std.proofs.lemmas.Str.Pattern.{split_parts}
use Rattle.garde_catalog.specs.Template.{value_at}
use Rattle.garde_catalog.proofs.Reading.{filled_more, filled_nothing, filled_rest, filled_unclosed, free_by_place}
use Rattle.garde_catalog.proofs.template.fill.Goals.{then-places-test+in_default+in_ok-push_str, then-places-test+in-Some+in_ok-push_str-2+in_default-split_once, else-places-test}
use Rattle.garde_catalog.proofs.template.fill.Goals as goal

pub places-preserved : goal.places-preserved
places-preserved c =
    let opened = split_parts 123 c.places.rest.now (Some (c.in-Some.words, c.in-Some.tail)) c.in-Some.ensures.cases (lit< tt) in
    let closed = split_parts 125 c.in-Some.tail.now (Some (c.in-Some-split_once.name, c.in-Some-split_once.after)) c.in-Some-split_once.ensures.cases (lit< tt) in
    record {
      text = search rules;
      whole = filled_more (value_at c.args.put) c.args.text.now c.places.rest.now c.in-Some.words.now c.in-Some.tail.now
          c.in-Some-split_once.name.now c.in-Some-split_once.after.now (string_bytes c.places.whole) _ _
          opened.0 (free_by_place 123 c.in-Some.words.now opened.1) closed.0 (free_by_place 125 c.in-Some-split_once.name.now closed.1)
          c.in_ok-push_str-2.ensures.bytes c.in_ok-push_place.ensures c.places.invariant.whole;
    }

pub returns : goal.returns
returns c =
    let value = value_at c.args.put in
    elim c.places-test.branch [
      | then-places-test+in_default+in_ok-push_str w ↦ rw w.whole-is (w.in_ok-push_str.ensures.bytes
          ∙ ap (λ l. string_bytes c.places.whole ++ l) (sym (filled_rest value c.places.rest.now
          (free_by_place 123 c.places.rest.now (split_parts 123 c.places.rest.now None w.in_default.ensures.cases (lit< tt)))))
          ∙ c.places.invariant.whole)
      | then-places-test+in-Some+in_ok-push_str-2+in_default-split_once w ↦
          let opened = split_parts 123 c.places.rest.now (Some (w.in-Some.words, w.in-Some.tail)) w.in-Some.ensures.cases (lit< tt) in
          rw w.whole-is (w.in_ok-push_str-2.ensures.bytes
          ∙ ap (λ l. string_bytes c.places.whole ++ l) (sym (filled_unclosed value c.places.rest.now w.in-Some.words.now w.in-Some.tail.now
          opened.0 (free_by_place 123 w.in-Some.words.now opened.1)
          (free_by_place 125 w.in-Some.tail.now (split_parts 125 w.in-Some.tail.now None w.in_default-split_once.ensures.cases (lit< tt)))))
          ∙ c.places.invariant.whole)
      | else-places-test w ↦
          let none : c.places.rest.now ≡ [] = grind (arith, common_steps) in
          rw w.whole-is (filled_nothing value (string_bytes c.places.whole) c.places.rest.now none ∙ c.places.invariant.whole)
    ]
