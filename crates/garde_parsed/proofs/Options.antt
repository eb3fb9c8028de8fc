-- From what a parser of the toolchain returns to the value that a text spells.
use Rattle.std.proofs.Common.{◌≡◌, Option, Some, None, refl}

-- nothing is the value where no value is
pub none_of : {A : Type 0} (o : Option A) → ((a : A) → o ≡ Some a → ⊥) → None ≡ o
none_of None never = refl
none_of (Some a) never = absurd (never a refl)

-- the values in two options that are the same
pub in_some : {A : Type 0} {a b : A} → Some a ≡ Some b → a ≡ b
in_some e = cc
