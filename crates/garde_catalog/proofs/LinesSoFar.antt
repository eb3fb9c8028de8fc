-- The lines of messages, put together one after the other.
use Rattle.std.proofs.Common.{◌≡◌, ◌∙◌, ◌+◌, ◌<◌, ◌≤◌, ◌∷◌, ℕ, Bool, List, [], Option, Some, None, Result, length, drop, map, get_or, refl, sym, ap, subst, append_assoc, append-nil}
use Rattle.std.specs.Prelude.{IfOk}
use Rattle.json.specs.Json.{Json}
use Rattle.std.proofs.lemmas.List.{at_drop_more, drop_all}
use Rattle.garde_catalog.specs.Lines.{Line, joined, lines_of, read, with_first_line, with_last_line}
use Rattle.garde_catalog.specs.Messages.{Message, Stated, message_of}

joined_first : (so_far : Option (List Line)) (code : List ℕ) (found : Option (Option (List ℕ))) (rest : Option (List Line))
    → joined (with_last_line so_far code found) rest ≡ joined so_far (with_first_line code found rest)
joined_first (Some xs) code (Some (Some text)) (Some ys) = ap (λ l. Some l) (append_assoc xs ((code, text) ∷ []) ys)
joined_first (Some xs) code (Some (Some text)) None = refl
joined_first (Some xs) code (Some None) (Some ys) = refl
joined_first (Some xs) code (Some None) None = refl
joined_first (Some xs) code None rest = refl
joined_first None code found rest = refl

joined_nothing : (so_far : Option (List Line)) → joined so_far (Some []) ≡ so_far
joined_nothing (Some xs) = ap (λ l. Some l) (append-nil xs)
joined_nothing None = refl

module _ (text_at : List ℕ → Option (Option (List ℕ))) (messages : List Stated) (i : ℕ) where
  -- the text of the next message stands behind the lines
  pub lines_next : (d : Stated) (so_far now : Option (List Line)) (found : Option (Option (List ℕ))) → i < length messages → found ≡ text_at (get_or messages i d).0.now
      → now ≡ with_last_line so_far (get_or messages i d).0.now found
      → joined now (lines_of text_at (map message_of (drop (i + 1) messages))) ≡ joined so_far (lines_of text_at (map message_of (drop i messages)))
  lines_next d so_far now found within is then_is =
      let code = (get_or messages i d).0.now in
      let rest = lines_of text_at (map message_of (drop (i + 1) messages)) in
      ap (λ o. joined o rest) (then_is ∙ ap (with_last_line so_far code) is) ∙ joined_first so_far code (text_at code) rest
      ∙ ap (joined so_far) (sym (at_drop_more (λ l. lines_of text_at (map message_of l)) messages i d within))

  -- behind the last message nothing is left
  pub lines_end : (so_far : Option (List Line)) {all : Option (List Line)} → length messages ≤ i → joined so_far (lines_of text_at (map message_of (drop i messages))) ≡ all → so_far ≡ all
  lines_end so_far past is = sym (joined_nothing so_far) ∙ ap (λ l. joined so_far (lines_of text_at (map message_of l))) (sym (drop_all i messages past)) ∙ is

joined_from : (lines : Option (List Line)) → joined (Some []) lines ≡ lines
joined_from (Some lines) = refl
joined_from None = refl

-- the lines of two tables of messages, one behind the other
pub both_lines : {E : Type 0} (may_lack : Bool) (j : Json) (start : List Line) (table rest : Option (List Line)) (result : Result (Option (List Line)) E) {listed all : List Message} → start ≡ [] → listed ≡ all
    → table ≡ joined (Some start) (read may_lack j listed) → IfOk result (λ out. out ≡ joined table rest) → IfOk result (λ out. out ≡ joined (read may_lack j all) rest)
both_lines may_lack j start table rest result {listed} none same is then_is =
    let first : table ≡ read may_lack j listed = is ∙ ap (λ l. joined (Some l) (read may_lack j listed)) none ∙ joined_from (read may_lack j listed) in
    subst (λ t. IfOk result (λ out. out ≡ joined t rest)) (first ∙ ap (read may_lack j) same) then_is
