-- Lemmas on the answer of a whole walk.
use Rattle.std.proofs.Common.{◌≡◌, ℕ, ◌-◌, ◌^◌, min, Bool, true, false, List, [], ◌∷◌, ◌++◌, length, Result, Ok, Err, refl, ap, sym, subst, ◌∙◌, inl, inr, arith}
use Rattle.std.specs.Result.{IsOk}
use Rattle.std.proofs.lemmas.Bool.{true≢false}
use Rattle.std.specs.Prelude.{◌==◌}
use Rattle.std.specs.Cmp.{unsigned_Decides}
use Rattle.garde_i18n.specs.Datum.{Datum}
use Rattle.garde_report.specs.Report.{Entry}
use Rattle.garde_report.specs.Trace.{Trace, new_trace}
use Rattle.garde_report.specs.declared.error.report.Report.{Report}
use Rattle.garde.specs.declared.validate_error.ValidateError.{ValidateError}
use Rattle.garde.specs.declared.validate_error.ValidateError.TheVariants as errors
use Rattle.garde.specs.Tree.{Tree, bears, flat, nodes}
use Rattle.garde.specs.Walk.{trace_after, Walked, MayRefuse}
use Rattle.garde.specs.Visits.{Visits}
use Rattle.garde.specs.Answers.{Headline, AnswersOn, NeedsNoMemory}
use Rattle.garde.proofs.Flat.{flat_of_no_fault, no_fault_of_flat}
use Rattle.garde.proofs.Counts.{trace_by, trace_after-none, nodes_of_no_fault}

-- the report of a walk that began with an empty one
pub walk_told : {trees : Tree → Type 0} {text : Datum → List ℕ} {before after : Trace} {old new : List Entry} → old ≡ [] → (walk : Walked trees text before after old new) → new ≡ flat text before.components walk.tree
walk_told {text = text} {before} began walk = walk.report ∙ ap (λ ls. ls ++ flat text before.components walk.tree) began

-- where the report is empty no tree has a fault
pub answers_valid : (visits : Visits) {text : Datum → List ℕ} {before after : Trace} {old new : List Entry} → old ≡ [] → Walked visits.trees text before after old new → new ≡ [] → AnswersOn visits text before after (Ok tt)
answers_valid visits {text = text} {before} began walk empty =
    let silent : bears walk.tree ≡ false = no_fault_of_flat text before.components walk.tree (sym (walk_told began walk) ∙ empty) in
    let known = (visits.alike walk.tree walk.visited).0 silent in
    (λ t v. (visits.alike t v).1 known, walk.trail ∙ trace_after-none before walk.tree silent)

-- and else one has that gives the report
pub answers_faults : (visits : Visits) {text : Datum → List ℕ} {before after : Trace} {old : List Entry} {report : Report} → old ≡ [] → Walked visits.trees text before after old report → ¬ (report ≡ []) → AnswersOn visits text before after (Err (errors.Report report))
answers_faults visits {text = text} {before} began walk filled =
    (walk.tree, walk.visited, by_cases (bears walk.tree) refl, walk_told began walk, walk.trail)
  where
    by_cases : (b : Bool) → bears walk.tree ≡ b → bears walk.tree ≡ true
    by_cases true e = e
    by_cases false e = absurd (filled (walk_told began walk ∙ flat_of_no_fault text before.components walk.tree e))

-- from the root, on a new trail
pub headline : (visits : Visits) (text : Datum → List ℕ) (before after : Trace) (answer : Result Unit ValidateError) → AnswersOn visits text before after answer → before ≡ new_trace → Headline visits text after.nodes answer
headline visits text before after (Ok _) (none, same) new =
    let (t, visited) = visits.has_tree in
    let silent : bears t ≡ false = none t visited in
    let made : after.nodes ≡ 0 = ap (λ w. w.nodes) (same ∙ new) in (
      none,
      made,
      (t, (visited, sym (flat_of_no_fault text [] t silent), made ∙ ap (λ n. min n (2 ^ 64 - 1)) (sym (nodes_of_no_fault t silent)))),
    )
headline visits text before after (Err (errors.Report r)) (t, v, b, is, trail) new = (
  t,
  (v, is ∙ ap (λ w. flat text w.components t) new, ap (λ w. w.nodes) trail ∙ ap (λ w. (trace_after w t).nodes) new ∙ ap (λ x. (trace_by new_trace x (nodes t)).nodes) b ∙ omega arith),
  b,
)
headline visits text before after (Err errors.Memory) told new = subst (λ w. MayRefuse visits.trees visits.allocates (length w.components)) new told.0

-- where no memory is needed there is no reason to run out of it, and no report
pub never_refused : (visits : Visits) (depth : ℕ) → NeedsNoMemory visits depth → MayRefuse visits.trees visits.allocates depth → ⊥
never_refused visits depth needs (inl allocates) = needs.allocates_nothing allocates
never_refused visits depth needs (inr (t, v, inl bears)) = true≢false (sym bears ∙ needs.none_bears t v)
never_refused visits depth needs (inr (t, v, inr deeper)) = let most = needs.none_deeper t v in omega arith

pub surely : (visits : Visits) (text : Datum → List ℕ) (before after : Trace) (answer : Result Unit ValidateError) → AnswersOn visits text before after answer → NeedsNoMemory visits (length before.components) → IsOk answer
surely visits text before after (Ok _) told needs = refl
surely visits text before after (Err (errors.Report r)) (t, v, b, is, trail) needs = absurd (true≢false (sym b ∙ needs.none_bears t v))
surely visits text before after (Err errors.Memory) told needs = absurd (never_refused visits (length before.components) needs told.0)

-- an empty report, by its length
pub empty_report : (r : List Entry) → (length r == 0) ≡ true → r ≡ []
empty_report [] e = refl
empty_report (x ∷ r) e = let none : length (x ∷ r) ≡ 0 = (unsigned_Decides (length (x ∷ r)) 0).0 e in absurd (omega arith)

pub filled_report : (r : List Entry) → (length r == 0) ≡ false → ¬ (r ≡ [])
filled_report r e is = true≢false (sym (ap (λ l. length l == 0) is) ∙ e)
