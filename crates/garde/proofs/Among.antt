-- What is said of faults is the text of one of them.
use Rattle.std.proofs.Common.{◌≡◌, ℕ, zero, suc, Option, Some, None, Result, Ok, Err, List, [], ◌∷◌, ◌++◌, ap, sym, subst, arith}
use Rattle.std.specs.List.{Contains}
use Rattle.std.proofs.lemmas.List.Elements.{All-append, All-cons}
use Rattle.garde_i18n.specs.Datum.{Datum}
use Rattle.garde_report.specs.Report.{Entry}
use Rattle.garde_report.specs.declared.error.rule_error.RuleError.{RuleError}
use Rattle.garde_report.specs.declared.error.rule_error.RuleError.TheVariants as errors
use Rattle.garde_rules.specs.{Fault, fault_text, Applies}
use Rattle.garde_rules.specs.Memory.{AppliesInMemory}
use Rattle.garde.specs.Redaction.{IsAmong, FindsOnly, fault_texts, SaysOneOf, SaysOnly, SaysOnlyInMemory, SaysNoMore}
use Rattle.garde.specs.Tree.{nothing, fault, under, flat}

later_of : {A : Type 0} (y : A) (xs : List A) (x : A) → Contains xs x → Contains (y ∷ xs) x
later_of y xs x (k, within, is) = (suc k, omega (arith, within), is)

text_of : (text : Datum → List ℕ) (faults : List Fault) (f : Fault) → Contains faults f → Contains (fault_texts text faults) (fault_text text f)
text_of text [] f (k, within, is) = absurd (omega (arith, within))
text_of text (g ∷ faults) f (zero, within, is) = (0, omega arith, ap (fault_text text) is)
text_of text (g ∷ faults) f (suc k, within, is) = later_of _ _ _ (text_of text faults f (k, omega (arith, within), is))

pub says_no_more : SaysNoMore
says_no_more faults nothing among text p = λ k d within. absurd (omega (arith, within))
says_no_more faults (fault f t) among text p =
    All-cons (λ (e : Entry). Contains (fault_texts text faults) e.1) (p, fault_text text f) (flat text p t) (text_of text faults f among.0) (says_no_more faults t among.1 text p)
says_no_more faults (under k s t) among text p =
    All-append (λ (e : Entry). Contains (fault_texts text faults) e.1) (flat text (p ++ k ∷ []) s) (flat text p t) (says_no_more faults s among.0 text (p ++ k ∷ [])) (says_no_more faults t among.1 text p)

-- ---- what a rule says

message_of : (faults : List Fault) (text : Datum → List ℕ) (f : Fault) (message : List ℕ) → Contains faults f → message ≡ fault_text text f → Contains (fault_texts text faults) message
message_of faults text f message among is = subst (Contains (fault_texts text faults)) (sym is) (text_of text faults f among)

says : (faults : List Fault) (found : Option Fault) (text : Datum → List ℕ) (result : Result (Unit {0}) RuleError) → IsAmong faults found → Applies found text result → SaysOneOf (fault_texts text faults) result
says faults found text (Ok x) among applies = tt
says faults (Some f) text (Err (errors.Fault message)) among is = message_of faults text f message among is
says faults None text (Err (errors.Fault message)) among impossible = absurd impossible
says faults found text (Err errors.Memory) among applies = tt

says_in_memory : (faults : List Fault) (found : Option Fault) (text : Datum → List ℕ) (result : Result (Unit {0}) RuleError) → IsAmong faults found → AppliesInMemory found text result → SaysOneOf (fault_texts text faults) result
says_in_memory faults found text (Ok x) among applies = tt
says_in_memory faults (Some f) text (Err (errors.Fault message)) among is = message_of faults text f message among is
says_in_memory faults None text (Err (errors.Fault message)) among impossible = absurd impossible
says_in_memory faults found text (Err errors.Memory) among applies = tt

pub says_only : {R T : Type 0} (may_find : R → List Fault) (finds : R → T → Option Fault) → FindsOnly may_find finds → SaysOnly may_find finds
says_only may_find finds only asked value text result applies = says (may_find asked) (finds asked value) text result (only asked value) applies

pub says_only_in_memory : {R T : Type 0} (may_find : R → List Fault) (finds : R → T → Option Fault) → FindsOnly may_find finds → SaysOnlyInMemory may_find finds
says_only_in_memory may_find finds only asked value text result applies =
    says_in_memory (may_find asked) (finds asked value) text result (only asked value) applies
