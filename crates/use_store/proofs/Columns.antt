-- A record of five fields, which are the names of the columns.
use Rattle.std.proofs.Common.{◌≡◌, ◌∙◌, sym, ℕ, Bool, true, List, [], ◌∷◌, codes, length, arith, bytes_eq}
use Rattle.std.proofs.lemmas.Slice.Eq.{bytes_eq-Decides}
use Rattle.csv.specs.Records.{field_at}
use Rattle.use_store.specs.List.{columns, field}

pub columns_are : (fields : List (List ℕ)) → length fields ≡ 5 → field fields 0 ≡ codes "code" → field fields 1 ≡ codes "name"
    → field fields 2 ≡ codes "quantity" → field fields 3 ≡ codes "price" → field fields 4 ≡ codes "page" → fields ≡ columns
unfolding field_at
columns_are [] e p q r s t = absurd (omega (arith, e))
columns_are (a ∷ []) e p q r s t = absurd (omega (arith, e))
columns_are (a ∷ b ∷ []) e p q r s t = absurd (omega (arith, e))
columns_are (a ∷ b ∷ c ∷ []) e p q r s t = absurd (omega (arith, e))
columns_are (a ∷ b ∷ c ∷ d ∷ []) e p q r s t = absurd (omega (arith, e))
columns_are (a ∷ b ∷ c ∷ d ∷ f ∷ []) e p q r s t = cc
columns_are (a ∷ b ∷ c ∷ d ∷ f ∷ g ∷ more) e p q r s t = absurd (omega (arith, e))

-- a text that is compared with a name, where both tests that follow are true
pub same : (text other name : List ℕ) (is test : Bool) → text ≡ other → is ≡ bytes_eq text name → test ≡ is → test ≡ true → other ≡ name
same text other name is test p q r s = sym p ∙ (bytes_eq-Decides text name).0 (sym (r ∙ q) ∙ s)
