-- Values that are made of the parts that a text wrote.
use Rattle.std.specs.Prelude.{◌≡◌, ◌↔◌, ℕ, ℤ, List, Bool, true, false, ◌&&◌, Option, Some, None, Result, Ok, Err, refl, int_le, option_and_then}
use Rattle.std.specs.Bool.{passes}
use Rattle.std.specs.Int.Signed.{le_z_yes}
use Rattle.std.proofs.lemmas.Bool.{and_parts}
use Rattle.jiff_core.specs.Calendar.{IsBetween}

-- the value of a result
abbrev pub ok_of : {A E : Type 0} → Result A E → Option A
ok_of (Ok x) = Some x
ok_of (Err e) = None

-- what is made of a fact, where the test shows it
abbrev pub where_true : {P A : Type 0} (test : Bool) → (test ≡ true → P) → (P → A) → Option A
where_true true shows make = Some (make (shows refl))
where_true false shows make = None

-- whether a number is from low to high
abbrev pub is_between : ℤ → ℤ → ℤ → Bool
is_between low high z = int_le low z && int_le z high

-- then it is
abbrev pub between : (low high z : ℤ) → is_between low high z ≡ true → IsBetween low high z
between low high z e = let both = and_parts _ _ e in (le_z_yes (passes _ both.0), le_z_yes (passes _ both.1))

-- the value whose parts are what the parser read in a text
abbrev pub value_of : {A B E : Type 0} → (B → Option A) → (List ℕ → Result B E) → List ℕ → Option A
value_of from parse text = option_and_then from (ok_of (parse text))

-- the values are those whose parts the parser reads
abbrev pub PartsLaw : {A B E : Type 0} → (B → Option A) → (A → B) → (List ℕ → Result B E) → Type 0
PartsLaw {A} from parts parse = (text : List ℕ) (a : A) → (value_of from parse text ≡ Some a) ↔ (parse text ≡ Ok (parts a))
