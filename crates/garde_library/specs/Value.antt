-- What is handed over of a value.
use Rattle.std.specs.Prelude.{◌≡◌, ◌⊎◌, ℕ, List, [], Option, Some, None}
use Rattle.json.specs.Json.{Json}
use Rattle.garde_tape.specs.Input.{without_mark}
use Rattle.garde_schema.specs.Bytes.{OfDocument}
use Rattle.garde_library.specs.Checked.{IsHanded}
use Rattle.garde_library.specs.Nodes.{Spells}
use Rattle.garde_library.specs.declared.node.Node.{Node}
use Rattle.garde_library.specs.declared.status.Status.{Status}
use Rattle.garde_library.specs.declared.status.Status.TheVariants as statuses

-- Nodes and texts were handed over, with the number of each: the nodes spell the JSON value of the bytes, whose texts lie in the bytes or
-- among the texts.
abbrev pub IsGiven : List ℕ → List Node → List Node → ℕ → List ℕ → List ℕ → ℕ → Type 0
IsGiven bytes old new count old' new' len =
    (nodes : List Node) × (texts : List ℕ) × OfDocument (without_mark bytes) (λ j. Spells bytes texts nodes j)
    × IsHanded nodes old new count × IsHanded texts old' new' len

-- neither nodes nor texts were handed over
abbrev pub IsNotGiven : List Node → List Node → ℕ → List ℕ → List ℕ → ℕ → Type 0
IsNotGiven old new count old' new' len = IsHanded [] old new count × IsHanded [] old' new' len

-- Nodes and texts were handed over, if the status is `Valid`: then the nodes spell the JSON value of the bytes.
abbrev pub IsGivenIf : Status → List ℕ → List Node → List Node → ℕ → List ℕ → List ℕ → ℕ → Type 0
IsGivenIf statuses.Valid bytes old new count old' new' len = IsGiven bytes old new count old' new' len
IsGivenIf statuses.Faults bytes old new count old' new' len = IsNotGiven old new count old' new' len
IsGivenIf statuses.NoJson bytes old new count old' new' len = IsNotGiven old new count old' new' len
IsGivenIf statuses.Memory bytes old new count old' new' len = IsNotGiven old new count old' new' len
IsGivenIf statuses.WrongArgument bytes old new count old' new' len = IsNotGiven old new count old' new' len

-- The status is that of what judged the bytes, and if it is `Valid` their value was handed over; or memory ran out, and none was.
abbrev pub IsGivenAs : Status → List ℕ → List Node → List Node → ℕ → List ℕ → List ℕ → ℕ → Status → Type 0
IsGivenAs judged bytes old new count old' new' len status =
    ((status ≡ judged) × IsGivenIf judged bytes old new count old' new' len)
    ⊎ ((status ≡ statuses.Memory) × IsNotGiven old new count old' new' len)

-- the nodes spell a value whose texts lie among the texts, where there is one; else there are none
abbrev pub SpellIf : Option Json → List ℕ → List Node → Type 0
SpellIf None texts nodes = (nodes ≡ []) × (texts ≡ [])
SpellIf (Some j) texts nodes = Spells [] texts nodes j
