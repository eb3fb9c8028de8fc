-- What is handed over of the faults of bytes.
use Rattle.std.specs.Prelude.{◌≡◌, ◌<◌, ◌==◌, ◌⊎◌, ℕ, List, [], length, if◌then◌else◌}
use Rattle.json.specs.Json.{Json}
use Rattle.garde.specs.Handlers.{Datum}
use Rattle.garde.specs.Visits.{Visits}
use Rattle.garde_tape.specs.Input.{without_mark}
use Rattle.garde_schema.specs.FirstRead.{AnswersFirstBytes}
use Rattle.garde_library.specs.Checked.{Reading, IsHanded, details_json, status_of, text_of}
use Rattle.garde_library.specs.Places.{AreFound}
use Rattle.garde_library.specs.Value.{IsNotGiven, SpellIf}
use Rattle.garde_library.specs.declared.node.Node.{Node}
use Rattle.garde_library.specs.declared.place.Place.{Place}
use Rattle.garde_library.specs.declared.status.Status.{Status}
use Rattle.garde_library.specs.declared.status.Status.TheVariants as statuses

-- the text of the details, if there is room for a byte of it: else it is not written
abbrev pub text_in : ℕ → List ℕ → Reading → List ℕ
text_in room title read = if room == 0 then [] else text_of title read

-- these nodes and texts were handed over, and they spell the details of the result of reading
abbrev pub AreGiven : List ℕ → Reading → List Node → List Node → ℕ → List ℕ → List ℕ → ℕ → Type 0
AreGiven title read nodes nodes' count texts texts' len =
    (made : List Node) × (room : List ℕ) × SpellIf (details_json title read) room made
    × IsHanded made nodes nodes' count × IsHanded room texts texts' len

-- the places of the faults were handed over, if there is room for one
abbrev pub ArePlaced : List ℕ → Reading → List Place → List Place → ℕ → Type 0
ArePlaced bytes read places places' found =
    (at : List Place) × AreFound bytes read (length places) at × IsHanded at places places' found

-- neither a text nor nodes nor places were handed over
abbrev pub IsNoFault : List ℕ → List ℕ → ℕ → List Node → List Node → ℕ → List ℕ → List ℕ → ℕ → List Place → List Place → ℕ → Type 0
IsNoFault out out' size nodes nodes' count texts texts' len places places' found =
    IsHanded [] out out' size × IsNotGiven nodes nodes' count texts texts' len × IsHanded [] places places' found

-- The faults of the result of reading were handed over: the text of the details, its nodes and the places; or memory ran out.
abbrev pub AreFaults : List ℕ → List ℕ → Reading → List ℕ → List ℕ → ℕ → List Node → List Node → ℕ → List ℕ → List ℕ → ℕ → List Place → List Place → ℕ → Status → Type 0
AreFaults title bytes read out out' size nodes nodes' count texts texts' len places places' found status =
    ((status ≡ status_of read) × IsHanded (text_in (length out) title read) out out' size
    × AreGiven title read nodes nodes' count texts texts' len × ArePlaced bytes read places places' found)
    ⊎ ((status ≡ statuses.Memory) × IsNoFault out out' size nodes nodes' count texts texts' len places places' found)

-- These were handed the faults of bytes, where visits and messages are these, and so many faults are wanted at most. Nothing was handed
-- over where not even one fault is wanted, or memory ran out.
abbrev pub IsCheckedWithNodes : (Json → Visits) → (Datum → List ℕ) → ℕ → List ℕ → List ℕ → List ℕ → List ℕ → ℕ → List Node → List Node → ℕ → List ℕ → List ℕ → ℕ → List Place → List Place → ℕ → Status → Type 0
IsCheckedWithNodes visits text most title bytes out out' size nodes nodes' count texts texts' len places places' found status =
    ((0 < most) × ((read : Reading) × AnswersFirstBytes visits text most (without_mark bytes) read
    × AreFaults title bytes read out out' size nodes nodes' count texts texts' len places places' found status))
    ⊎ (((most ≡ 0) × (status ≡ statuses.WrongArgument) × IsNoFault out out' size nodes nodes' count texts texts' len places places' found)
    ⊎ ((status ≡ statuses.Memory) × IsNoFault out out' size nodes nodes' count texts texts' len places places' found))
