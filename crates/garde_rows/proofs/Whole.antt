-- Rows that are whole and others, under their index.
use Rattle.std.proofs.Common.{◌≡◌, ◌≤◌, ℕ, Bool, true, false, List, Option, Some, None, Result, Ok, Err, IsErr, length, refl, sym, subst, ◌∙◌}
use Rattle.std.proofs.lemmas.Bool.{false≢true}
use Rattle.std.specs.Prelude.{IfOk, IsOkAnd, OnOk, if◌then◌else◌}
use Rattle.garde_i18n.specs.Datum.{Datum}
use Rattle.garde_report.specs.Fault.{IfFault}
use Rattle.garde_report.specs.Part.{Part}
use Rattle.garde_report.specs.Report.{Entry}
use Rattle.garde_report.specs.Trace.{Trace, IsTrace, with_component, without_last}
use Rattle.garde_report.specs.declared.error.rule_error.RuleError.{RuleError}
use Rattle.garde_report.specs.declared.error.rule_error.RuleError.TheVariants as errors
use Rattle.garde_rules.specs.{Applies}
use Rattle.garde.specs.Fields.{own}
use Rattle.garde.specs.Visits.{Visits, Visited, Known, found, under}
use Rattle.garde.proofs.Author.{visited_full, visited_under}
use Rattle.garde_schema.specs.declared.fault.FormFault.TheVariants.{RowLength}
use Rattle.garde_schema.specs.Forms.{FormTexts, forget, refused, Sound}
use Rattle.garde_rows.specs.Rows.{if_whole}

-- the answer of a rule whose fault has a text of its own
pub own_applies : {C E : Type 0} (bytes : C → List ℕ) (message : List ℕ) (text : Datum → List ℕ) (r : Result C E) (e : RuleError) → IfFault e (λ m. IsOkAnd r (λ t. m ≡ bytes t)) → IfOk r (λ s. bytes s ≡ message) → Applies (Some (own message)) text (Err e)
own_applies bytes message text (Ok t) (errors.Fault m) says is = says ∙ is
own_applies bytes message text (Err x) (errors.Fault m) says is = absurd says
own_applies bytes message text r errors.Memory says is = refl

-- a fault of form is a fault
refused_is_fault : (message : List ℕ) → Known (refused message) → ⊥
unfolding Known found
refused_is_fault message is = cc

-- a row that is whole is as sound as its form, and another one has a fault
pub sound_whole : {A B E : Type 0} (r : Result B E) (texts : FormTexts) (whole : Bool) (visits : Visits) (keeps : A → Type 0) (value : Option A) → whole ≡ true → OnOk r (Sound visits keeps value) → OnOk r (Sound (if_whole texts whole visits) keeps (if whole then value else None))
sound_whole r texts whole visits keeps value is sound = subst (λ b. OnOk r (Sound (if_whole texts b visits) keeps (if b then value else None))) (sym is) sound

pub sound_other : {A : Type 0} (texts : FormTexts) (whole : Bool) (visits : Visits) (keeps : A → Type 0) (value : Option A) → whole ≡ false → Sound (if_whole texts whole visits) keeps (if whole then value else None)
sound_other texts whole visits keeps value is = subst (λ b. Sound (if_whole texts b visits) keeps (if b then value else None)) (sym is) (refused_is_fault (texts RowLength))

module _ {text : Datum → List ℕ} {E : Type 0} where
  pub told_whole : (texts : FormTexts) (whole : Bool) (visits : Visits) {before after : Trace} {old new : List Entry} {result : Result Unit E} → whole ≡ true → Visited visits text before after old new result → Visited (if_whole texts whole visits) text before after old new result
  told_whole texts whole visits {before} {after} {old} {new} {result} is told = subst (λ b. Visited (if_whole texts b visits) text before after old new result) (sym is) told

  pub told_other : (texts : FormTexts) (whole : Bool) (visits : Visits) {before after : Trace} {old new : List Entry} {result : Result Unit E} → whole ≡ false → Visited (refused (texts RowLength)) text before after old new result → Visited (if_whole texts whole visits) text before after old new result
  told_other texts whole visits {before} {after} {old} {new} {result} is told = subst (λ b. Visited (if_whole texts b visits) text before after old new result) (sym is) told

  -- under a component, which is this one
  pub told_under : (k : Part) {p : Part} (a : Visits) {before inner mid after : Trace} {old new : List Entry} {result : Result Unit E} → p ≡ k → IsTrace before → inner ≡ with_component before p → Visited a text inner mid old new result → after ≡ without_last mid → Visited (under k a) text before after old new result
  told_under k {p} a {before} {inner} {mid} {after} {old} {new} {result} is sound push told pop = subst (λ z. Visited (under z a) text before after old new result) is (visited_under p a sound push told pop)

  -- no component more goes onto the trail
  pub told_under_full : {A : Type 0} (k : Part) (a : Visits) (result : Result A E) {before after : Trace} {old new : List Entry} → new ≡ old → after ≡ before → 8 ≤ length before.components → IsErr result → Visited (under k a) text before after old new (forget result)
  told_under_full k a (Ok x) same still full is = absurd (false≢true is)
  told_under_full k a (Err e) same still full is = visited_full k a same still full refl
