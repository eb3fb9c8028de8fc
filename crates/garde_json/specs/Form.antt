-- A report as the JSON tree that a text spells.
use Rattle.std.specs.Prelude.{◌≡◌, ◌≢◌, List, map, Option, Result, IfOk, MatchOption}
use Rattle.std.specs.declared.alloc.AllocError.{AllocError}
use Rattle.json.specs.Json.{Json}
use Rattle.serde_json.specs.Data.{Data, array}
use Rattle.serde_json.specs.View.{items_of}
use Rattle.serde_json.specs.Written.{outline}
use Rattle.garde_report.specs.Report.{Entry}
use Rattle.garde_json.specs.Json.{report_json}

-- the array of the trees of a list
abbrev pub array_tree : {X : Type 0} → (X → Data) → List X → Json
array_tree tree xs = outline (array (items_of (map tree xs)))

-- the written form of a report, each member of its objects once
abbrev pub report_tree : List Entry → Json
report_tree entries = outline (report_json entries)

-- the tree that a text spells of a written form
abbrev pub spelled : {X : Type 0} → (X → Data) → X → Json
spelled tree x = outline (tree x)

-- what is read of a tree, or of tokens: none where they are no written form, else one, and what was made says it, where there was
-- memory for it
abbrev pub ReadsAs : {R X D : Type 0} → (R → X) → (X → D) → D → Option (Result R AllocError) → Type 0
ReadsAs {X = X} says tree d result = MatchOption result ((x : X) → d ≢ tree x) (λ made. (x : X) × (d ≡ tree x) × IfOk made (λ read. says read ≡ x))

-- the same of what says itself
abbrev pub Reads : {X D : Type 0} → (X → D) → D → Option (Result X AllocError) → Type 0
Reads tree d result = ReadsAs (λ x. x) tree d result
