-- Lemmas on what is said of a value that is no number of its type.
use Rattle.std.proofs.Common.{◌≡◌, ℕ, Bool, true, false, List, Option, Some, None, Err, refl, sym, subst}
use Rattle.std.proofs.lemmas.Bool.{false≢true}
use Rattle.std.specs.Prelude.{if◌then◌else◌}
use Rattle.json.specs.Json.{Json}
use Rattle.garde_i18n.specs.Datum.{Datum}
use Rattle.garde_report.specs.declared.error.rule_error.RuleError.{RuleError}
use Rattle.garde_report.specs.declared.error.rule_error.RuleError.TheVariants as errors
use Rattle.garde.specs.Fields.{Fault}
use Rattle.garde.specs.Visits.{Visits, Known, found}
use Rattle.garde_rules.specs.{Applies}
use Rattle.garde_schema.specs.Bound.{TellsBound}
use Rattle.garde_schema.specs.Forms.{FormTexts, Sound}
use Rattle.garde_schema.specs.Whole.{beyond_fault, number_visits, other_visits}
use Rattle.garde_schema.specs.declared.fault.Integer.{Integer}

-- the fault of a bound, or that memory ran out, is what a rule says that finds a fault
pub bound_applies : (whole : Bool) (bound : Option Fault) (message : List ℕ) (other : Fault) (text : Datum → List ℕ) (e : RuleError) → whole ≡ true → TellsBound bound text (Err e) → Applies (Some (if whole then beyond_fault bound message else other)) text (Err e)
bound_applies true (Some fault) message other text (errors.Fault told) is tells = tells
bound_applies true None message other text (errors.Fault told) is tells = absurd tells
bound_applies true bound message other text errors.Memory is tells = refl
bound_applies false bound message other text e is tells = absurd (false≢true is)

-- what is said of a value that is no number of the type is a fault
pub other_is_fault : (texts : FormTexts) (integer : Integer) (bound : Option Fault) (j : Json) → Known (other_visits texts integer bound j) → ⊥
unfolding Known found
other_is_fault texts integer bound j is = cc

pub sound_other : {A : Type 0} (other : Visits) (each : A → Visits) (keeps : A → Type 0) (seen : Option A) → seen ≡ None → (Known other → ⊥) → Sound (number_visits other each seen) keeps seen
sound_other other each keeps seen none fault = subst (λ z. Sound (number_visits other each z) keeps z) (sym none) fault
