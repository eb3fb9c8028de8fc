use Rattle.std.proofs.Common.{◌≡◌, ◌<◌, ◌∙◌, ◌++◌, ◌∷◌, ℕ, List, Bool, true, false, Some, None, length, get_or, ap, lit<}
use Rattle.std.proofs.lemmas.Str.Pattern.{contains_char, split_parts}
use Rattle.garde_catalog.proofs.Reading.{Free, closed_before, closed_only, free_by_place, never_closed, opened_twice, plain_by_both}
use Rattle.garde_catalog.proofs.template.first_place.Goals as goal

no_such : (c : ℕ) (text : List ℕ) (r : Bool) → ((k : ℕ) → k < length text → get_or text k 0 ≡ c → r ≡ true) → r ≡ false → Free c text
no_such c text r h off = free_by_place c text (λ k low e. cc (h k low e, off))

pub returns-then-contains-clause-err : goal.returns-then-contains-clause-err
returns-then-contains-clause-err c = λ _. closed_only c.args.text.now
    (free_by_place 123 c.args.text.now (split_parts 123 c.args.text.now None c.in_default.ensures.cases (lit< tt)))
    ((contains_char 125 c.args.text.now c.contains.result c.contains.ensures.cases (lit< tt)).0 c.if-contains.true)

pub returns-else-contains-clause-ok : goal.returns-else-contains-clause-ok
returns-else-contains-clause-ok c = plain_by_both c.args.text.now
    (free_by_place 123 c.args.text.now (split_parts 123 c.args.text.now None c.in_default.ensures.cases (lit< tt)))
    (no_such 125 c.args.text.now c.contains.result (contains_char 125 c.args.text.now c.contains.result c.contains.ensures.cases (lit< tt)).1 c.if-contains.false)

pub returns-then-contains-2-clause-err : goal.returns-then-contains-2-clause-err
returns-then-contains-2-clause-err c =
    let opened = split_parts 123 c.args.text.now (Some (c.in-Some.words, c.in-Some.tail)) c.in-Some.ensures.cases (lit< tt) in
    λ _. closed_before c.args.text.now c.in-Some.words.now c.in-Some.tail.now opened.0 (free_by_place 123 c.in-Some.words.now opened.1)
    ((contains_char 125 c.in-Some.words.now c.contains-2.result c.contains-2.ensures.cases (lit< tt)).0 c.if-contains-2.true)

pub returns-in_default-split_once-clause-err : goal.returns-in_default-split_once-clause-err
returns-in_default-split_once-clause-err c =
    let opened = split_parts 123 c.args.text.now (Some (c.in-Some.words, c.in-Some.tail)) c.in-Some.ensures.cases (lit< tt) in
    λ _. never_closed c.args.text.now c.in-Some.words.now c.in-Some.tail.now opened.0 (free_by_place 123 c.in-Some.words.now opened.1)
    (free_by_place 125 c.in-Some.tail.now (split_parts 125 c.in-Some.tail.now None c.in_default-split_once.ensures.cases (lit< tt)))

pub returns-then-contains-3-clause-err : goal.returns-then-contains-3-clause-err
returns-then-contains-3-clause-err c =
    let opened = split_parts 123 c.args.text.now (Some (c.in-Some.words, c.in-Some.tail)) c.in-Some.ensures.cases (lit< tt) in
    let closed = split_parts 125 c.in-Some.tail.now (Some (c.in-Some-split_once.name, c.in-Some-split_once.after)) c.in-Some-split_once.ensures.cases (lit< tt) in
    let name = c.in-Some-split_once.name.now in
    λ _. opened_twice c.args.text.now c.in-Some.words.now c.in-Some.tail.now name c.in-Some-split_once.after.now opened.0
    (free_by_place 123 c.in-Some.words.now opened.1) closed.0 (free_by_place 125 name closed.1)
    ((contains_char 123 name c.contains-3.result c.contains-3.ensures.cases (lit< tt)).0 c.if-contains-3.true)

pub returns-clause-ok : goal.returns-clause-ok
returns-clause-ok c =
    let opened = split_parts 123 c.args.text.now (Some (c.in-Some.words, c.in-Some.tail)) c.in-Some.ensures.cases (lit< tt) in
    let closed = split_parts 125 c.in-Some.tail.now (Some (c.in-Some-split_once.name, c.in-Some-split_once.after)) c.in-Some-split_once.ensures.cases (lit< tt) in
    let words = c.in-Some.words.now in
    let name = c.in-Some-split_once.name.now in
    record {
      whole = opened.0 ∙ ap (λ l. words ++ (123 ∷ l)) closed.0;
      words_plain = plain_by_both words (free_by_place 123 words opened.1)
          (no_such 125 words c.contains-2.result (contains_char 125 words c.contains-2.result c.contains-2.ensures.cases (lit< tt)).1 c.if-contains-2.false);
      name_plain = plain_by_both name
          (no_such 123 name c.contains-3.result (contains_char 123 name c.contains-3.result c.contains-3.ensures.cases (lit< tt)).1 c.if-contains-3.false)
          (free_by_place 125 name closed.1);
    }
