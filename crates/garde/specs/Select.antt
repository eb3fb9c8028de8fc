-- The part of a visit tree at and under a prefix, and what `select` keeps of its report.
use Rattle.std.specs.Prelude.{◌≡◌, ℕ, if◌then◌else◌, List, [], ◌∷◌, map, Some}
use Rattle.garde_i18n.specs.Datum.{Datum}
use Rattle.garde_report.specs.Report.{Entry, has_text, messages_under}
use Rattle.garde.specs.Tree.{Tree, nothing, fault, under, ◌then◌, flat}

-- all of the tree where the prefix is empty, and else, in order, the parts under each component with the prefix's first text
abbrev pub part : List (List ℕ) → Tree → Tree
part [] t = t
part (text ∷ way) nothing = nothing
part (text ∷ way) (fault f t) = part (text ∷ way) t
part (text ∷ way) (under k s t) = (if has_text text (Some k) then part way s else nothing) then part (text ∷ way) t

-- the messages of entries, in order
abbrev pub messages : List Entry → List (List ℕ)
messages = map (λ (e : Entry). e.1)

-- what is selected of the faults of a tree are the messages of its part
abbrev pub SelectGivesPart : Type 0
SelectGivesPart = (t : Tree) (way : List (List ℕ)) (text : Datum → List ℕ) →
    messages_under way (flat text [] t) ≡ messages (flat text [] (part way t))
