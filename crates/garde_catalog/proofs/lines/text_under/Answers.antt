use Rattle.std.proofs.Common.{◌≡◌, ◌≢◌, ◌∷◌, ◌++◌, ◌+◌, ◌<◌, ◌∙◌, [], ℕ, List, Option, Some, None, MatchOption, Bor, length, get_or, take, ap}
use Rattle.garde_catalog.specs.Catalog.{Entry, texts_under}
use Rattle.garde_catalog.proofs.Made.{is_code, is_no_code, other_line, same_line, second_line}
use Rattle.garde_catalog.proofs.lines.text_under.Goals.{then-eq+in_default, else-eq}
use Rattle.garde_catalog.proofs.lines.text_under.Goals as goal

-- the lines so far have this text under the code, or none
abbrev HasSoFar : List ℕ → List Entry → ℕ → Option (Bor (List ℕ)) → Type 0
HasSoFar code entries i found = MatchOption found (texts_under code (take i entries) ≡ []) (λ text. texts_under code (take i entries) ≡ text.now ∷ [])

taken : (code : List ℕ) (entries : List Entry) (i : ℕ) (d : Entry) (before after : Option (Bor (List ℕ))) → i < length entries
    → (get_or entries i d).0.now ≡ code → before ≡ None → after ≡ Some (get_or entries i d).1
    → HasSoFar code entries i before → HasSoFar code entries (i + 1) after
taken code entries i d before after low e b a h =
    rw a (same_line code entries i d low e ∙ ap (λ l. l ++ ((get_or entries i d).1.now ∷ [])) (rw b at h))

passed_with : (code : List ℕ) (entries : List Entry) (i : ℕ) (d : Entry) (found : Option (Bor (List ℕ))) → i < length entries
    → (get_or entries i d).0.now ≢ code → HasSoFar code entries i found → HasSoFar code entries (i + 1) found
passed_with code entries i d None low e h = other_line code entries i d low e ∙ h
passed_with code entries i d (Some text) low e h = other_line code entries i d low e ∙ h

passed : (code : List ℕ) (entries : List Entry) (i : ℕ) (d : Entry) (before after : Option (Bor (List ℕ))) → i < length entries
    → (get_or entries i d).0.now ≢ code → after ≡ before
    → HasSoFar code entries i before → HasSoFar code entries (i + 1) after
passed code entries i d before after low e a h = rw a (passed_with code entries i d before low e h)

pub returns-in-Some-clause-err : goal.returns-in-Some-clause-err
returns-in-Some-clause-err c =
    second_line c.args.code.now c.args.entries.now c.loop-name.name-index _ c.in-Some.field-0.now c.loop-name-test.true
    (is_code _ _ c.eq.ensures c.if-eq.true) (rw c.in-Some.is at c.loop-name.invariant)

pub loop-name-preserved : goal.loop-name-preserved
loop-name-preserved c = elim c.if-eq.branch [
  | then-eq+in_default w ↦ taken c.args.code.now c.args.entries.now c.loop-name.name-index _ c.loop-name.found c.if-eq.found c.loop-name-test.true
      (is_code _ _ c.eq.ensures w.if-eq.true) w.in_default.is w.found-is c.loop-name.invariant
  | else-eq w ↦ passed c.args.code.now c.args.entries.now c.loop-name.name-index _ c.loop-name.found c.if-eq.found c.loop-name-test.true
      (is_no_code _ _ c.eq.ensures w.if-eq.false) w.found-is c.loop-name.invariant
]
