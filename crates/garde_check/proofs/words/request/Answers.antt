use Rattle.std.proofs.Common.{◌≡◌, ℕ, ◌-◌, ◌≤◌, List, [], ◌∷◌, length, get_or, take, drop, map, ap, string_bytes, sym, ◌∙◌, arith}
use Rattle.std.proofs.lemmas.Bool.Decides.{Decides-eqb}
use Rattle.std.proofs.lemmas.Slice.Eq.{slice_eq-Decides}
use Rattle.std.proofs.lemmas.List.{take_all}
use Rattle.garde_check.proofs.words.request.Goals as goal

-- the first two of a list, and the texts of the others, are all its texts
first_two : {X : Type 0} (f : X → List ℕ) (words : List X) (o t : X) (option text : List ℕ) (rest : List (List ℕ)) → 2 ≤ length words → o ≡ get_or words 0 o → t ≡ get_or words 1 t → f o ≡ option → f t ≡ text
    → map f (take (length words - 2) (drop 2 words)) ≡ rest → map f words ≡ option ∷ text ∷ rest
first_two f [] o t option text rest two is_o is_t fo ft left = absurd (omega (arith, two))
first_two f (x ∷ []) o t option text rest two is_o is_t fo ft left = absurd (omega (arith, two))
first_two f (x ∷ y ∷ ws) o t option text rest two is_o is_t fo ft left =
    let keep = take_all (length (x ∷ y ∷ ws) - 2) ws (omega arith) in
    let others : map f ws ≡ rest = sym (ap (map f) keep) ∙ left in
    λ i. (sym (ap f is_o) ∙ fo) i ∷ (sym (ap f is_t) ∙ ft) i ∷ others i

-- the first word is the option, and the second the number
pub returns-in_ok-first_command-in-len2-up-clause-some :
    goal.returns-in_ok-first_command-in-len2-up-clause-some
returns-in_ok-first_command-in-len2-up-clause-some c =
    let text = c.as_str-in-len2-up.result.now in
    let others = c.in_ok-first_command-in-len2-up.ensures.some in
    let is_option = (slice_eq-Decides Decides-eqb _ _ _ c.eq.ensures).0 c.if-eq.true in (
      text,
      c.in_ok-most-in-len2-up.ensures.some,
      first_two string_bytes c.args.words.now c.option-item.result c.text-item.result _ text _ c.in-len2-up.len_at_least c.option-item.is c.text-item.is (sym c.as_str.ensures.value ∙ is_option) (sym c.as_str-in-len2-up.ensures.value) others.0,
      others.1,
    )
