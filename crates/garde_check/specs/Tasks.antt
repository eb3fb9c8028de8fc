-- Which output belongs to an input.
use Rattle.std.specs.Prelude.{◌≡◌, ℕ, List, [], Bool, false, true, Option, ◌↔◌}
use Rattle.std.specs.Str.{IsUtf8}
use Rattle.garde.specs.Fields.{Visits}
use Rattle.garde.specs.Words.{Entry, default_text}
use Rattle.garde.specs.Tree.{Tree, bears, flat}
use Rattle.garde_check.specs.declared.mode.Command.{Command}
use Rattle.garde_check.specs.declared.mode.Command.TheVariants.{Body}
use Rattle.garde_check.specs.declared.outcome.Outcome.{Outcome}
use Rattle.garde_check.specs.declared.outcome.Outcome.TheVariants.{Valid}
use Rattle.garde_check.specs.declared.outcome.RunError.{RunError}
use Rattle.garde_check.specs.declared.outcome.RunError.TheVariants.{NotUtf8, BadBody, Memory}
use Rattle.garde_check.specs.Body.{Content, body_tree}
use Rattle.garde_check.specs.Form.{first_in, more_in, nodes_in, told_text}
use Rattle.garde_check.specs.Lines.{lines_of}
use Rattle.garde_check.specs.Request.{SpellsJust, SpellsNothing}
use Rattle.garde_check.specs.Users.{lines_tree}

-- what a command writes of a tree, all faults or at most so many
abbrev pub output_of : Command → Option ℕ → Tree → List ℕ
output_of command most t =
    let all = flat default_text [] t in
    told_text command (first_in most all) (more_in most all) (nodes_in most t)

-- the output of a command for a tree, and its outcome: `Valid` exactly where the tree has no fault
abbrev pub IsOutput : Command → Option ℕ → Tree → Outcome → List ℕ → Type 0
IsOutput command most t outcome output = (output ≡ output_of command most t) × ((outcome ≡ Valid) ↔ (bears t ≡ false))

-- output and outcome are those of one of the trees that a value may have
abbrev pub Finds : Visits → Command → Option ℕ → Outcome → List ℕ → Type 0
Finds visits command most outcome output = (t : Tree) × visits.trees t × IsOutput command most t outcome output

-- Of one of the trees that a value may have these are the faults that are written, all or at most so many, how many where there are
-- more, and the nodes where they are all; and its outcome.
abbrev pub FindsFirst : Visits → Option ℕ → Outcome → List Entry → Option ℕ → Option ℕ → Type 0
FindsFirst visits most outcome report more count =
    (t : Tree) × visits.trees t × (report ≡ first_in most (flat default_text [] t))
    × (more ≡ more_in most (flat default_text [] t)) × (count ≡ nodes_in most t) × ((outcome ≡ Valid) ↔ (bears t ≡ false))

-- The output of a command for an input, and its outcome: those of the one tree of the lines of the
-- input.
abbrev pub Reports : Command → Option ℕ → List ℕ → Outcome → List ℕ → Type 0
Reports command most input = IsOutput command most (lines_tree 0 (lines_of input))

-- The same of the one tree of the body that the input spells.
abbrev pub BodyReports : Option ℕ → List ℕ → Outcome → List ℕ → Type 0
BodyReports most input outcome output =
    (body : Content) × SpellsJust input body × IsOutput Body most (body_tree body) outcome output

-- whether a command reads the body of a request, and no lines
abbrev pub reads_body : Command → Bool
reads_body Body = true
reads_body command = false

abbrev pub GivesFor : Bool → Command → Option ℕ → List ℕ → Outcome → List ℕ → Type 0
GivesFor true command = BodyReports
GivesFor false command = Reports command

-- which output and outcome of a command belong to an input
abbrev pub Gives : Command → Option ℕ → List ℕ → Outcome → List ℕ → Type 0
Gives command = GivesFor (reads_body command) command

-- no input
abbrev pub Never : List ℕ → Type 0
Never input = ⊥

abbrev pub RefusesFor : Bool → List ℕ → Type 0
RefusesFor true = SpellsNothing
RefusesFor false = Never

-- which inputs of a command are rejected for their form
abbrev pub Refuses : Command → List ℕ → Type 0
Refuses command = RefusesFor (reads_body command)

-- why no output was made for these bytes: they are not UTF-8, or are rejected for their form, or
-- memory ran out
abbrev pub OutputFails : (List ℕ → Type 0) → List ℕ → RunError → Type 0
OutputFails Refused bytes NotUtf8 = IsUtf8 bytes → ⊥
OutputFails Refused bytes BadBody = IsUtf8 bytes × Refused bytes
OutputFails Refused bytes Memory = Unit {0}
OutputFails Refused bytes _ = ⊥
