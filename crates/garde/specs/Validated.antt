-- Values that were validated.
use Rattle.std.specs.Prelude.{◌≡◌, ℕ, List, [], Result, Ok, Err, IsTrue}
use Rattle.garde_i18n.specs.Datum.{Datum}
use Rattle.garde.specs.declared.unvalidated.IntoValidError.{IntoValidError}
use Rattle.garde.specs.declared.unvalidated.IntoValidError.TheVariants as errors
use Rattle.garde.specs.Tree.{Tree, bears, flat}
use Rattle.garde.specs.Trees.{NoneBears}
use Rattle.garde.specs.Visits.{Visits, Known}
use Rattle.garde.specs.Walk.{MayRefuse}

-- Under some context, no tree of the value has a fault, and so what the rules ask is known of it.
abbrev pub IsValid : {V C : Type 0} → (V → C → Visits) → V → Type 0
IsValid {C = C} visits value = (ctx : C) × NoneBears (visits value ctx).trees × Known (visits value ctx)

-- The answer where a value is handed in to be validated. Ok: it is that value, and no tree of it has a fault. A report: it is a
-- tree with a fault, read from left to right. `Memory`: the value is handed back, and there is a reason for it.
abbrev pub AnswersFor : {V : Type 0} → Visits → (Datum → List ℕ) → V → Result V (IntoValidError V) → Type 0
AnswersFor visits text value (Ok valid) = (valid ≡ value) × NoneBears visits.trees
AnswersFor visits text value (Err (errors.Report report)) =
    (t : Tree) × visits.trees t × IsTrue (bears t) × (report ≡ flat text [] t)
AnswersFor visits text value (Err (errors.Memory back)) = (back ≡ value) × MayRefuse visits.trees visits.allocates 0
