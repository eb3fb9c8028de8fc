-- What a reading of a tree by a form finds, and what it returns.
use Rattle.std.specs.Prelude.{ℕ, List, Bool, true, false, Option, Some, None, IfSome, Result, Ok, Err}
use Rattle.garde.specs.Fields.{own}
use Rattle.garde.specs.Visits.{Visits, Known, found}
use Rattle.garde_schema.specs.declared.fault.FormFault.{FormFault}

-- the texts of the faults of form
abbrev pub FormTexts : Type 0
FormTexts = FormFault → List ℕ

-- the fault of form with this text
abbrev pub refused : List ℕ → Visits
refused message = found (Some (own message))

-- what is asked of what has the form; the fault with this text where nothing has it
abbrev pub formed : {A : Type 0} → List ℕ → (A → Visits) → Option A → Visits
formed message each (Some x) = each x
formed message each None = refused message

-- the result without the value
abbrev pub forget : {A E : Type 0} → Result A E → Result (Unit {0}) E
forget (Ok x) = Ok tt
forget (Err e) = Err e

-- A tree of another form has a fault. Where there is none, what the rules ask is known of the value.
abbrev pub Sound : {A : Type 0} → Visits → (A → Type 0) → Option A → Type 0
Sound visits keeps None = Known visits → ⊥
Sound visits keeps (Some out) = Known visits → keeps out

-- both, where both are there
abbrev pub both : {A B : Type 0} → Option A → Option B → Option (A × B)
both (Some a) (Some b) = Some (a, b)
both (Some a) None = None
both None b = None

-- of an option this is asked where it has a value
abbrev pub KeepsSome : {A : Type 0} → (A → Type 0) → Option A → Type 0
KeepsSome keeps out = IfSome out keeps

-- the value of what has no further parts, where it is there
abbrev pub where_true : Bool → Option (Unit {0})
where_true true = Some tt
where_true false = None
