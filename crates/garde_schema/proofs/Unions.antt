-- Lemmas on unions, whose variant is chosen by a name.
use Rattle.std.proofs.Common.{◌≡◌, ℕ, List, Option, Some, None, Result, Ok, Err, refl, ap, sym, subst, ◌∙◌}
use Rattle.std.specs.Prelude.{option_map, option_and_then}
use Rattle.garde_i18n.specs.Datum.{Datum}
use Rattle.garde_report.specs.Part.{Part}
use Rattle.garde_report.specs.Report.{Entry}
use Rattle.garde_report.specs.Trace.{Trace}
use Rattle.garde.specs.Visits.{Visits, Visited, Known, under}
use Rattle.garde_schema.specs.declared.fault.FormFault.{FormFault}
use Rattle.garde_schema.specs.declared.fault.FormFault.TheVariants as faults
use Rattle.garde_schema.specs.Forms.{formed, refused, Sound, FormTexts}
use Rattle.garde_schema.specs.Variants.{chosen_visits, chosen_value}
use Rattle.garde_schema.proofs.Lemmas.{refused_is_fault, told_as}

-- where nothing is chosen there is a fault
pub sound_not_chosen : {A C : Type 0} (name : Part) (texts : FormTexts) (each : C → Visits) (keeps : A → Type 0) (value : C → Option A) (choice : Result C FormFault) (fault : FormFault) → choice ≡ Err fault → Sound (chosen_visits name texts each choice) keeps (chosen_value value choice)
unfolding Known under
sound_not_chosen name texts each keeps value choice fault is = subst (λ z. Sound (chosen_visits name texts each z) keeps (chosen_value value z)) (sym is) (refused_is_fault (texts fault))

-- where no name is found there is a fault
pub sound_unnamed : {A : Type 0} (message : List ℕ) (each : List ℕ → Visits) (keeps : A → Type 0) (value : List ℕ → Option A) (o : Option (List ℕ)) → o ≡ None → Sound (formed message each o) keeps (option_and_then value o)
sound_unnamed message each keeps value o is = subst (λ z. Sound (formed message each z) keeps (option_and_then value z)) (sym is) (refused_is_fault message)

module _ {text : Datum → List ℕ} {E : Type 0} where
  -- what is asked by the choice, which is this one
  pub told_chosen : {C : Type 0} (name : Part) (texts : FormTexts) (each : C → Visits) (choice other : Result C FormFault) {before after : Trace} {old new : List Entry} {result : Result Unit E} → choice ≡ other → Visited (chosen_visits name texts each choice) text before after old new result → Visited (chosen_visits name texts each other) text before after old new result
  told_chosen name texts each choice other {before} {after} {old} {new} {result} is told = subst (λ z. Visited (chosen_visits name texts each z) text before after old new result) is told

  -- what is asked of an object, which was seen as one
  pub told_object : {A B : Type 0} (message : List ℕ) (a : Visits) (f : A → B) (o : Option A) (x : B) {seen : Option B} {before after : Trace} {old new : List Entry} {result : Result Unit E} → seen ≡ Some x → seen ≡ option_map f o → Visited a text before after old new result → Visited (formed message (λ _. a) o) text before after old new result
  told_object message a f (Some y) x some is told = told
  told_object message a f None x some is told = let never : Some x ≡ None = sym some ∙ is in cc

  -- what is asked by a name, which was found
  pub told_named : (message : List ℕ) (each : List ℕ → Visits) (o : Option (List ℕ)) (n : List ℕ) {before after : Trace} {old new : List Entry} {result : Result Unit E} → o ≡ Some n → Visited (each n) text before after old new result → Visited (formed message each o) text before after old new result
  told_named message each o n {before} {after} {old} {new} {result} is told = subst (λ z. Visited (formed message each z) text before after old new result) (sym is) told

  -- no name was found, and this fault is told
  pub told_unnamed : (texts : FormTexts) (each : List ℕ → Visits) (o : Option (List ℕ)) (f g : FormFault) {before after : Trace} {old new : List Entry} {told result : Result Unit E} → o ≡ None → f ≡ g → Visited (refused (texts f)) text before after old new told → result ≡ told → Visited (formed (texts g) each o) text before after old new result
  told_unnamed texts each o f g {before} {after} {old} {new} {result = result} none is told same = subst (λ z. Visited (formed (texts g) each z) text before after old new result) (sym none) (subst (λ x. Visited (refused (texts x)) text before after old new result) is (told_as (refused (texts f)) same told))
