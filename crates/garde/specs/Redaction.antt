-- What a message may say. A rule that is discreet states which faults it may find, by its arguments alone, so no message of it depends on
-- the value that it is asked of. An argument that is taken from another field is reported.
use Rattle.std.specs.Prelude.{⊤, ℕ, Option, Result, Ok, Err, List, map}
use Rattle.std.specs.List.{All, Contains}
use Rattle.garde_i18n.specs.Datum.{Datum}
use Rattle.garde_report.specs.Part.{Part}
use Rattle.garde_report.specs.Report.{Entry}
use Rattle.garde_report.specs.declared.error.rule_error.RuleError.{RuleError}
use Rattle.garde_report.specs.declared.error.rule_error.RuleError.TheVariants as errors
use Rattle.garde_rules.specs.{Fault, fault_text, Applies}
use Rattle.garde_rules.specs.Memory.{AppliesInMemory}
use Rattle.garde.specs.Tree.{Tree, nothing, fault, under, flat}
use Rattle.garde.specs.Visits.{Visits}
pub use Rattle.garde_rules.specs.Redaction.{IsAmong, FindsOnly, one_fault, own_fault, length_faults, range_faults, card_faults, phone_faults, url_faults}

-- the texts of these faults
abbrev pub fault_texts : (Datum → List ℕ) → List Fault → List (List ℕ)
fault_texts text faults = map (fault_text text) faults

-- the result is no fault, or one with one of these texts
abbrev pub SaysOneOf : List (List ℕ) → Result (Unit {0}) RuleError → Type 0
SaysOneOf texts (Ok _) = ⊤
SaysOneOf texts (Err (errors.Fault message)) = Contains texts message
SaysOneOf texts (Err errors.Memory) = ⊤

-- The message of a rule is the text of one of the faults that it may find, whatever value it is asked of, under every handler; and so
-- is that of a rule that may allocate.
abbrev pub SaysOnly : {R T : Type 0} → (R → List Fault) → (R → T → Option Fault) → Type 0
SaysOnly {R} {T} may_find finds =
    (asked : R) (value : T) (text : Datum → List ℕ) (result : Result (Unit {0}) RuleError) →
    Applies (finds asked value) text result → SaysOneOf (fault_texts text (may_find asked)) result

abbrev pub SaysOnlyInMemory : {R T : Type 0} → (R → List Fault) → (R → T → Option Fault) → Type 0
SaysOnlyInMemory {R} {T} may_find finds =
    (asked : R) (value : T) (text : Datum → List ℕ) (result : Result (Unit {0}) RuleError) →
    AppliesInMemory (finds asked value) text result → SaysOneOf (fault_texts text (may_find asked)) result

-- each fault of the tree is one of these
abbrev pub AreAmong : List Fault → Tree → Type 0
AreAmong faults nothing = ⊤
AreAmong faults (fault f t) = Contains faults f × AreAmong faults t
AreAmong faults (under k s t) = AreAmong faults s × AreAmong faults t

-- each fault of each tree of these visits is one of these
pub record FindsAmong (faults : List Fault) (visits : Visits) : Type 0 where
  pub among : (t : Tree) → visits.trees t → AreAmong faults t

-- What rules find of any value are faults that they may find.
abbrev pub AsksOnly : {R T : Type 0} → (R → List Fault) → (R → T → Visits) → Type 0
AsksOnly {R} {T} may_find asks = (asked : R) (value : T) → FindsAmong (may_find asked) (asks asked value)

-- Where each fault of a tree is one of these, each message of its report is the text of one of these: under every handler, and
-- wherever the tree is read.
abbrev pub SaysNoMore : Type 0
SaysNoMore = (faults : List Fault) (t : Tree) → AreAmong faults t → (text : Datum → List ℕ) (p : List Part) →
    All (λ (e : Entry). Contains (fault_texts text faults) e.1) (flat text p t)
