-- How far an import came.
use Rattle.std.specs.Prelude.{◌≡◌, ◌==◌, ℕ, ◌+◌, ◌-◌, ◌^◌, ◌%◌, ◌⊎◌, ◌&&◌, Bool, true, false, not, List, [], ◌∷◌, length, map, Option, Some, None, if◌then◌else◌}
use Rattle.std.specs.List.{list_any}
use Rattle.garde.specs.Handlers.{Datum}
use Rattle.garde.specs.Words.{Entry}
use Rattle.example_import.specs.Line.{Line}
use Rattle.example_import.specs.Import.{Turn, Imports, Takes}
use Rattle.example_import.specs.declared.item.Item.{Item}
use Rattle.example_import.specs.declared.run.Cause.{Cause}
use Rattle.example_import.specs.declared.run.Cause.TheVariants.{Memory, List as ListFails, Store, Report, TooLong}
use Rattle.example_import.specs.declared.run.Progress.{Progress}
use Rattle.example_import.specs.declared.run.Run.{Run}
use Rattle.example_import.specs.declared.run.Batch.{Batch}
use Rattle.example_import.specs.declared.run.Batch.TheVariants.{Items, All}

-- what was stored is kept after so many items
abbrev pub is_full : Batch → ℕ → Bool
is_full (Items most) items = not (most == 0) && (items % most == 0)
is_full All items = false

abbrev pub is_all : Batch → Bool
is_all (Items most) = false
is_all All = true

abbrev pub new_run : Run
new_run = record { stored = 0; faulty = false; kept = record { items = 0; stored = 0 } }

-- an item with a fault, or one whose row was stored
abbrev pub counted : Bool → Run → Run
counted true run = record { stored = run.stored; faulty = true; kept = run.kept }
counted false run = record { stored = run.stored + 1; faulty = run.faulty; kept = run.kept }

-- after so many items all that was stored is kept
abbrev pub committed : ℕ → Run → Run
committed items run = record { stored = run.stored; faulty = run.faulty; kept = record { items = items; stored = run.stored } }

abbrev pub has_fault : Turn → Bool
has_fault turn = not (length turn.1 == 0)

-- each step leads from one state to the next
abbrev pub Chain : {S A : Type 0} → (S → A → S → Type 0) → S → List A → S → Type 0
Chain R s [] t = t ≡ s
Chain {S = S} R s (a ∷ more) t = (mid : S) × R s a mid × Chain R mid more t

module _ {L O : Type 0} (gives : L → Option Item → L → Type 0) (tells : O → List Entry → O → Type 0) where
  -- one item is read and taken under this index, and its report, with these texts, is told
  pub record Goes (text : Datum → List ℕ) (index : ℕ) (list end : L) (out last : O) (old new : List Line) (faulty : Bool) : Type 0 where
    pub item : Item
    pub report : List Entry
    pub given : gives list (Some item) end
    pub told : tells out report last
    pub takes : Takes text index old item report new
    pub is_faulty : faulty ≡ has_fault (item, report)

  -- the items are read one after the other from the first on, and their reports are told one after the other
  pub record Reads (list end : L) (out last : O) (turns : List Turn) : Type 0 where
    pub given : Chain (λ s item. gives s (Some item)) list (map (λ (turn : Turn). turn.0) turns) end
    pub told : Chain tells out (map (λ (turn : Turn). turn.1) turns) last

  -- what is kept is what the first items of the list made of the table: so many items, and so many rows more. Where all or nothing
  -- is to be kept, they are none.
  pub record KeepsFront (text : Datum → List ℕ) (batch : Batch) (before : List Line) (list : L) (out : O) (kept : List Line) (progress : Progress) : Type 0 where
    pub turns : List Turn
    pub end : L
    pub last : O
    pub read : Reads list end out last turns
    pub made : Imports text 0 before turns kept
    pub items : progress.items ≡ length turns
    pub stored : length kept ≡ length before + progress.stored
    pub whole : is_all batch ≡ true → turns ≡ []

  -- the list is read on by one call, or it stays
  abbrev pub ReadsOn : L → L → Type 0
  ReadsOn list end = (end ≡ list) ⊎ ((next : Option Item) × gives list next end)

  -- How the list and the sink stand where an import stops for this reason, from how they stood when all that was read was told, and
  -- so many items were. At `List` the list failed, and at `Report` the sink did, with the report of one more item: nothing is known
  -- of them. At `Memory` one more item was read, whose report was not made.
  abbrev pub StopsAt : {A B C : Type 0} → Cause A B C → ℕ → L → L → O → O → Type 0
  StopsAt Memory items list end out last = ((item : Item) × gives list (Some item) end) × (last ≡ out)
  StopsAt (ListFails error) items list end out last = last ≡ out
  StopsAt (Store error) items list end out last = ReadsOn list end × (last ≡ out)
  StopsAt (Report error) items list end out last = (item : Item) × gives list (Some item) end
  StopsAt TooLong items list end out last = (end ≡ list) × (last ≡ out) × (items ≡ 2 ^ 64 - 1)

  -- An import that stopped for this reason: these items were read and taken from the first on, and the report of each was told before
  -- the next one was read. So where the list fails, the reports of all its items were told.
  pub record Halts {A B C : Type 0} (text : Datum → List ℕ) (cause : Cause A B C) (before : List Line) (list end : L) (out last : O) : Type 0 where
    pub turns : List Turn
    pub left : L
    pub said : O
    pub lines : List Line
    pub read : Reads list left out said turns
    pub made : Imports text 0 before turns lines
    pub stops : StopsAt cause (length turns) left end said last

  -- an import between two items
  pub record Ran (text : Datum → List ℕ) (batch : Batch) (before : List Line) (list end : L) (out last : O) (lines kept : List Line) (index : ℕ) (run : Run) : Type 0 where
    pub turns : List Turn
    pub read : Reads list end out last turns
    pub made : Imports text 0 before turns lines
    pub items : index ≡ length turns
    pub stored : length lines ≡ length before + run.stored
    pub faulty : run.faulty ≡ list_any has_fault turns
    pub keeps : KeepsFront text batch before list out kept run.kept

  -- An import that ended: each item of the list was taken, from the first to the last, and each report told. The table keeps what
  -- they made of it; where all or nothing is to be kept, and one has a fault, it is as before.
  pub record Ended (text : Datum → List ℕ) (batch : Batch) (before : List Line) (list end : L) (out last : O) (kept : List Line) (progress : Progress) : Type 0 where
    pub turns : List Turn
    pub left : L
    pub after : List Line
    pub read : Reads list left out last turns
    pub over : gives left None end
    pub made : Imports text 0 before turns after
    pub keeps : kept ≡ (if is_all batch && list_any has_fault turns then before else after)
    pub items : progress.items ≡ length turns
    pub stored : length kept ≡ length before + progress.stored
