-- What a reading of a text gives.
use Rattle.std.proofs.Common.{◌≡◌, ℕ, Bool, true, List, Option, Some, None, Result, Ok, Err, refl, sym, subst, ◌∙◌}
use Rattle.std.specs.Prelude.{IfOk, IsOkAnd, OnOk, option_and_then}
use Rattle.garde_i18n.specs.Datum.{Datum}
use Rattle.garde_report.specs.Report.{Entry}
use Rattle.garde_report.specs.Trace.{Trace}
use Rattle.garde_report.specs.Fault.{IfFault}
use Rattle.garde_report.specs.declared.error.rule_error.RuleError.{RuleError}
use Rattle.garde_report.specs.declared.error.rule_error.RuleError.TheVariants as errors
use Rattle.garde_rules.specs.{Applies}
use Rattle.garde.specs.Fields.{Fault, own}
use Rattle.garde.specs.Visits.{Visits, Visited, Known, found}
use Rattle.garde.proofs.Author.{visited_none}
use Rattle.garde_schema.specs.Bound.{TellsBound}
use Rattle.garde_schema.specs.Forms.{formed, refused, Sound}
use Rattle.garde_schema.specs.Whole.{beyond_fault, number_visits}
use Rattle.garde_form.specs.Texts.{unread}
use Rattle.garde_schema.specs.Nulls.{nullable_visits}

-- the answer of a rule whose fault has a text of its own
pub own_applies : {C E : Type 0} (bytes : C → List ℕ) (message : List ℕ) (text : Datum → List ℕ) (r : Result C E) (e : RuleError) → IfFault e (λ m. IsOkAnd r (λ t. m ≡ bytes t)) → IfOk r (λ s. bytes s ≡ message) → Applies (Some (own message)) text (Err e)
own_applies bytes message text (Ok t) (errors.Fault m) says is = says ∙ is
own_applies bytes message text (Err x) (errors.Fault m) says is = absurd says
own_applies bytes message text r errors.Memory says is = refl

-- a fault of form is a fault
refused_is_fault : (message : List ℕ) → Known (refused message) → ⊥
unfolding Known found
refused_is_fault message is = cc

pub on_ok : {A E : Type 0} (r : Result A E) {P : Type 0} → P → OnOk r P
on_ok (Ok x) p = p
on_ok (Err e) p = tt

-- what is said of a text that spells no value is a fault
unread_is_fault : (bound : Option Fault) (message : List ℕ) → Known (unread bound message) → ⊥
unfolding Known found
unread_is_fault bound message is = cc

-- the fault of a bound, or that memory ran out, is what a rule says that finds a fault
pub bound_applies : (bound : Option Fault) (message : List ℕ) (text : Datum → List ℕ) (e : RuleError) → TellsBound bound text (Err e) → Applies (Some (beyond_fault bound message)) text (Err e)
bound_applies (Some fault) message text (errors.Fault told) tells = tells
bound_applies None message text (errors.Fault told) tells = absurd tells
bound_applies bound message text errors.Memory tells = refl

-- what has no value has a fault, and of a value the rules are known
pub sound_read : {A : Type 0} (bound : Option Fault) (message : List ℕ) (each : A → Visits) (o : Option A) → Sound (number_visits (unread bound message) each o) (λ v. Known (each v)) o
sound_read bound message each (Some x) = λ known. known
sound_read bound message each None = unread_is_fault bound message

-- a text is as sound as what its parser makes of it
pub sound_text : {A B : Type 0} (message : List ℕ) (each : B → Visits) (keeps : A → Type 0) (value : B → Option A) (o : Option B) → ((s : B) → Sound (each s) keeps (value s)) → Sound (formed message each o) keeps (option_and_then value o)
sound_text message each keeps value (Some s) sound = sound s
sound_text message each keeps value None sound = refused_is_fault message

module _ {text : Datum → List ℕ} {E : Type 0} where
  -- nothing is asked of the empty text
  pub empty_visits : (visits : Visits) (empty : Bool) {walk : Trace} {old : List Entry} → empty ≡ true → Visited {E = E} (nullable_visits visits empty) text walk walk old old (Ok tt)
  empty_visits visits empty {walk} {old} is = subst (λ z. Visited {E = E} (nullable_visits visits z) text walk walk old old (Ok tt)) (sym is) visited_none
