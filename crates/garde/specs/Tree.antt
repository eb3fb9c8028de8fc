-- Visit trees: the result of walking a value.
use Rattle.std.specs.Prelude.{ℕ, zero, suc, ◌+◌, ◌-◌, Bool, true, false, Option, Some, None, ◌||◌, List, [], ◌∷◌, ◌++◌, max, if◌then◌else◌}
use Rattle.garde_i18n.specs.Datum.{Datum}
use Rattle.garde_report.specs.Part.{Part}
use Rattle.garde_report.specs.Report.{Entry}
use Rattle.garde_rules.specs.{Fault, fault_text}

-- A list of steps, each of them a fault, or a component with the tree under it.
pub data Tree : Type 0 where
  nothing : Tree
  fault : Fault → Tree → Tree
  under : Part → Tree → Tree → Tree

-- the steps of one tree, and then those of another
infixr 20 ◌then◌
abbrev pub ◌then◌ : Tree → Tree → Tree
nothing then u = u
(fault f t) then u = fault f (t then u)
(under k s t) then u = under k s (t then u)

-- the tree has a fault: some step is one, or has one under it
abbrev pub bears : Tree → Bool
bears nothing = false
bears (fault f t) = true
bears (under k s t) = bears s || bears t

-- the faults from left to right with these texts of data, each at its path, which begins with p
abbrev pub flat : (Datum → List ℕ) → List Part → Tree → List Entry
flat text p nothing = []
flat text p (fault f t) = (p, fault_text text f) ∷ flat text p t
flat text p (under k s t) = flat text (p ++ k ∷ []) s ++ flat text p t

-- how many faults
abbrev pub faults : Tree → ℕ
faults nothing = 0
faults (fault f t) = faults t + 1
faults (under k s t) = faults s + faults t

-- the tree without the faults after the first so many
abbrev pub first_faults : Tree → ℕ → Tree
first_faults nothing n = nothing
first_faults (fault f t) zero = first_faults t zero
first_faults (fault f t) (suc n) = fault f (first_faults t n)
first_faults (under k s t) n = under k (first_faults s n) (first_faults t (n - faults s))

-- how many components have a fault at or under them
abbrev pub nodes : Tree → ℕ
nodes nothing = 0
nodes (fault f t) = nodes t
nodes (under k s t) = (if bears s then nodes s + 1 else 0) + nodes t

-- the most components on a way down
abbrev pub height : Tree → ℕ
height nothing = 0
height (fault f t) = height t
height (under k s t) = max (height s + 1) (height t)

-- the step of what a rule found
abbrev pub found_tree : Option Fault → Tree
found_tree None = nothing
found_tree (Some f) = fault f nothing
