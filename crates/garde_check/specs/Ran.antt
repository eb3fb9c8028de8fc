-- What a run leaves.
use Rattle.std.specs.Prelude.{◌≡◌, ℕ, List, Bool, true, false, Option, IfSome, Result, Ok, Err, take}
use Rattle.std.specs.Str.{IsUtf8}
use Rattle.std.specs.Io.KnownBytes.{Appends, IsAtEnd, Keeps}
use Rattle.garde_check.specs.declared.outcome.Outcome.{Outcome}
use Rattle.garde_check.specs.declared.outcome.RunError.{RunError}
use Rattle.garde_check.specs.declared.outcome.RunError.TheVariants.{NotUtf8, BadBody, Read, Write, Memory}

-- A reader or a writer of the standard library, as contracts see it in `Plain`, and whether a call of it has failed.
pub record Wrapped (D : Type 0) : Type 0 where
  pub device : D
  pub has_failed : Bool

-- A reader or a writer, before a run and after it: the bytes that a reader has left, or that a writer
-- holds, where it knows them; and whether a call of it has failed by then.
pub record Device : Type 0 where
  pub before : Option (List ℕ)
  pub after : Option (List ℕ)
  pub has_failed : Bool

-- a device, by two functions that give its bytes and whether it has failed, and by its old and new
-- value
abbrev pub device : {D : Type 0} → (D → Option (List ℕ)) → (D → Bool) → D → D → Device
device bytes has_failed old new =
    record { before = bytes old; after = bytes new; has_failed = has_failed new }

-- What a run leaves. `Gives` says which outcome and output belong to an input, and `Refuses` which inputs are rejected for their
-- form. The input is what the reader had before.
module _ (Gives : List ℕ → Outcome → List ℕ → Type 0) (Refuses : List ℕ → Type 0)
    (reader writer : Device) where
  abbrev pub Leaves : Result Outcome RunError → Type 0
  -- neither has failed, the reader is at its end, what it had is UTF-8, and its output was written
  Leaves (Ok outcome) = (reader.has_failed ≡ false) × (writer.has_failed ≡ false) × IsAtEnd reader.after
      × IfSome reader.before (λ bytes. IsUtf8 bytes
      × ((output : List ℕ) × Gives bytes outcome output × Appends writer.before writer.after output))
  -- the reader is at its end, nothing was written, and what the reader had is not UTF-8
  Leaves (Err NotUtf8) = IsAtEnd reader.after × Keeps writer.before writer.after
      × IfSome reader.before (λ bytes. IsUtf8 bytes → ⊥)
  -- the reader is at its end, nothing was written, and what the reader had is UTF-8 and rejected for its form
  Leaves (Err BadBody) = IsAtEnd reader.after × Keeps writer.before writer.after
      × ((bytes : List ℕ) × IfSome reader.before (λ all. bytes ≡ all) × IsUtf8 bytes × Refuses bytes)
  -- the reader failed, and nothing was written
  Leaves (Err Read) = Keeps writer.before writer.after × (reader.has_failed ≡ true)
  -- the reader is at its end, what it had is UTF-8, the writer failed, and a beginning of the output
  -- was written
  Leaves (Err Write) = IsAtEnd reader.after × (writer.has_failed ≡ true)
      × IfSome reader.before (λ bytes. IsUtf8 bytes
      × ((outcome : Outcome) × (output : List ℕ) × Gives bytes outcome output
      × ((k : ℕ) × Appends writer.before writer.after (take k output))))
  -- nothing was written
  Leaves (Err Memory) = Keeps writer.before writer.after

-- why a reading failed: the reader failed, or memory ran out
abbrev pub TakeFails : Bool → RunError → Type 0
TakeFails failed Read = failed ≡ true
TakeFails failed Memory = Unit {0}
TakeFails failed _ = ⊥

-- why no output was made of what a reader had: the reader is at its end, and what it had is not UTF-8 or rejected for its form; or
-- the reader failed, or memory ran out
abbrev pub MakeFails : (List ℕ → Type 0) → Option (List ℕ) → Option (List ℕ) → Bool → RunError → Type 0
MakeFails Refuses input left failed NotUtf8 = IsAtEnd left × IfSome input (λ bytes. IsUtf8 bytes → ⊥)
MakeFails Refuses input left failed BadBody =
    IsAtEnd left × ((bytes : List ℕ) × IfSome input (λ all. bytes ≡ all) × IsUtf8 bytes × Refuses bytes)
MakeFails Refuses input left failed Read = failed ≡ true
MakeFails Refuses input left failed Write = ⊥
MakeFails Refuses input left failed Memory = Unit {0}
