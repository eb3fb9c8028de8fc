-- How the report of a tree depends on where the tree is read, and on the handler.
use Rattle.std.specs.Prelude.{◌≡◌, ℕ, List, [], ◌∷◌, ◌++◌, map}
use Rattle.garde_i18n.specs.Datum.{Datum}
use Rattle.garde_report.specs.Part.{Part}
use Rattle.garde_report.specs.Report.{Entry}
use Rattle.garde_rules.specs.{Fault, fault_text}
use Rattle.garde.specs.Tree.{Tree, nothing, fault, under, flat}

-- the same entry, with p in front of its path
abbrev pub entry_under : List Part → Entry → Entry
entry_under p e = (p ++ e.0, e.1)

-- read under p, a tree gives the same entries, each with p in front of its path
abbrev pub ReadsUnder : Type 0
ReadsUnder = (t : Tree) (p : List Part) (text : Datum → List ℕ) →
    flat text p t ≡ map (entry_under p) (flat text [] t)

-- the faults of a tree from left to right, each with its path, which begins with p
abbrev pub faults : List Part → Tree → List (List Part × Fault)
faults p nothing = []
faults p (fault f t) = (p, f) ∷ faults p t
faults p (under k s t) = faults (p ++ k ∷ []) s ++ faults p t

-- the entry of a fault: a rule's has the handler's text, and a user-defined message stays as it is
abbrev pub entry_of : (Datum → List ℕ) → List Part × Fault → Entry
entry_of text at = (at.0, fault_text text at.1)

-- The report of a tree is the list of its faults, each with its text. So another handler changes the texts of rules, and no path,
-- no order and no user-defined message.
abbrev pub ReadsByHandler : Type 0
ReadsByHandler = (t : Tree) (text : Datum → List ℕ) → flat text [] t ≡ map (entry_of text) (faults [] t)
