-- A fault at a field is selected by its name.
use Rattle.std.proofs.Common.{◌≡◌, ℕ, Bool, true, false, cond, List, [], ◌∷◌, Option, Some, refl, sym, ap, ◌∙◌}
use Rattle.std.specs.Prelude.{◌&&◌}
use Rattle.std.specs.Str.{bytes_eq}
use Rattle.garde_html.specs.Fields.{field_named}
use Rattle.garde_html.specs.Laws.{FaultsHavePlaces}

-- where the first test passes it is the first field, and else one of the others
by_test : (same : Bool) (text one field : List ℕ) (others : Option (List ℕ)) → bytes_eq text one ≡ same
    → cond same (Some one) others ≡ Some field → (others ≡ Some field → bytes_eq text field ≡ true) → bytes_eq text field ≡ true
by_test true text one field others is found later =
    let here : one ≡ field = cc in
    ap (bytes_eq text) (sym here) ∙ is
by_test false text one field others is found later = later found

named : (fields : List (List ℕ)) (text field : List ℕ) → field_named fields text ≡ Some field → bytes_eq text field ≡ true
named [] text field found = absurd (let no = found in cc)
named (one ∷ fields) text field found =
    by_test (bytes_eq text one) text one field (field_named fields text) refl found (named fields text field)

pub faults_have_places : FaultsHavePlaces
faults_have_places fields [] field found = absurd (let no = found in cc)
faults_have_places fields (p ∷ ps) field found = ap (λ b. b && true) (named fields p.text field found)
