-- Lemmas on the answer of at most so many faults.
use Rattle.std.proofs.Common.{◌≡◌, ℕ, ◌+◌, ◌<◌, ◌≤◌, min, Bool, true, false, List, [], ◌++◌, length, length-append, take, Result, Ok, Err, OnOk, ◌-◌, ◌^◌, refl, ap, sym, subst, ◌∙◌, arith}
use Rattle.std.specs.Result.{IsErr, IsOk}
use Rattle.std.proofs.lemmas.Bool.{false≢true, true≢false}
use Rattle.std.proofs.lemmas.List.{take-append-le}
use Rattle.garde_i18n.specs.Datum.{Datum}
use Rattle.garde_report.specs.Part.{Part}
use Rattle.garde_report.specs.Report.{Entry}
use Rattle.garde_report.specs.Trace.{Trace, with_limit}
use Rattle.garde_report.specs.declared.error.report.Report.{Report}
use Rattle.garde.specs.declared.first_error.FirstError.{FirstError}
use Rattle.garde.specs.declared.first_error.FirstError.TheVariants as firsts
use Rattle.garde.specs.declared.validate_error.ValidateError.{ValidateError}
use Rattle.garde.specs.declared.validate_error.ValidateError.TheVariants as errors
use Rattle.garde.specs.Tree.{Tree, bears, faults, first_faults, flat}
use Rattle.garde.specs.Walk.{trace_after, room, Walked, WalkedPartly, MayRefuse}
use Rattle.garde.specs.Visits.{Visits, Visited, Known}
use Rattle.garde.specs.Answers.{AreFirst, AnswersFirst, AnswersFirstOn, AnswersOn, Decides, EndsWithin, IsFirst, NeedsNoMemory}
use Rattle.garde.specs.FirstError.{whole_error}
use Rattle.garde.proofs.Answering.{never_refused, surely, walk_told}
use Rattle.garde.proofs.Counts.{trace_after-components, trace_after-most, trace_after-nodes, trace_after-limit}
use Rattle.garde.proofs.FirstFaults.{length-flat, first_faults-all, nodes_of_more, nodes_of_all}
use Rattle.garde.proofs.Flat.{flat_of_no_fault}
use Rattle.garde.proofs.Known.{known_of}

-- a tree with more faults than some number has one
pub bears_of_more : (text : Datum → List ℕ) (p : List Part) (t : Tree) (most : ℕ) → most < length (flat text p t) → bears t ≡ true
bears_of_more text p t most more = by_cases (bears t) refl
  where
    by_cases : (b : Bool) → bears t ≡ b → bears t ≡ true
    by_cases true e = e
    by_cases false e = let none = ap length (flat_of_no_fault text p t e) in absurd (omega (arith, none, more))

-- the end of a walk is within it
ends_whole : {trees : Tree → Type 0} {text : Datum → List ℕ} {before after : Trace} {old new : List Entry} → (walk : Walked trees text before after old new) → EndsWithin before after walk.tree
ends_whole {before = before} walk =
    let made = ap (λ w. w.nodes) walk.trail in (
      ap (λ w. w.components) walk.trail ∙ trace_after-components before walk.tree,
      ap (λ w. w.most) walk.trail ∙ trace_after-most before walk.tree,
      walk.front,
      omega (arith, made, trace_after-nodes before walk.tree),
      omega (arith, made),
    )

-- so is that of a walk that was cut short, and within the first faults up to the limit
pub ends_partly : {trees : Tree → Type 0} {text : Datum → List ℕ} {before after : Trace} {old new : List Entry} → (walk : WalkedPartly trees text before after old new) → EndsWithin before after walk.tree
ends_partly {before = before} {old = old} walk =
    (walk.components, walk.limit, walk.front, walk.nodes, omega (arith, walk.most, nodes_of_all before walk.tree (min (length walk.said + 1) (room before old))))

ends_at_limit : {trees : Tree → Type 0} {text : Datum → List ℕ} {before after : Trace} {old new : List Entry} (n : ℕ) → before.most ≤ n → (walk : WalkedPartly trees text before after old new) → EndsWithin before after (first_faults walk.tree n)
ends_at_limit {before = before} {old = old} n limit walk =
    (walk.components, walk.limit, walk.front, walk.nodes, omega (arith, walk.most, nodes_of_more before walk.tree (min (length walk.said + 1) (room before old)) n (omega (arith, limit))))

-- the first of what a beginning holds are the first of all
first_of_beginning : (most : ℕ) (said unsaid : List Entry) → most < length said → AreFirst most (said ++ unsaid) (take most said)
first_of_beginning most said unsaid more = (omega (arith, more, length-append said unsaid), sym (take-append-le most said unsaid (omega (arith, more))))

-- a report with more faults, cut to so many, is the first of a tree
pub answers_first : {E : Type 0} (visits : Visits) {text : Datum → List ℕ} (most : ℕ) {before after : Trace} {old new : List Entry} {first : Report} {result : Result Unit E} → old ≡ [] → before.most ≤ most + 1 → Visited visits text before after old new result → most < length new → first ≡ take most new → AnswersFirstOn visits text most before after (Err (firsts.First first))
answers_first visits {text} most {before} {after} {first = first} {result = Ok x} began limit told more cut =
    let walk = told.ok in
    let said : length (flat text before.components walk.tree) ≡ faults walk.tree = length-flat text before.components walk.tree in
    let all = first_faults-all walk.tree (most + 1) (omega (arith, limit, walk.fits, ap length began, ap length (walk_told began walk), said)) in
    (walk.tree, walk.visited, subst (λ ls. AreFirst most ls first) (walk_told began walk) (more, cut), subst (EndsWithin before after) (sym all) (ends_whole walk))
answers_first visits {text = text} most {before} {new = new} {first} {result = Err e} began limit told more cut =
    let walk = told.err in
    let said : new ≡ walk.said = walk.report ∙ ap (λ ls. ls ++ walk.said) began in
    let firsts = first_of_beginning most walk.said walk.unsaid (subst (λ ls. most < length ls) said more) in
    let same : first ≡ take most walk.said = cut ∙ ap (take most) said in
    (walk.tree, walk.visited, subst (λ all. AreFirst most all first) (sym walk.cut) (firsts.0, same ∙ firsts.1), ends_at_limit (most + 1) limit walk)

-- where memory ran out the walk ended within the first faults
pub answers_memory : {E : Type 0} (visits : Visits) {text : Datum → List ℕ} (most : ℕ) {before after : Trace} {old new : List Entry} {result : Result Unit E} → before.most ≤ most + 1 → Visited visits text before after old new result → IsErr result → AnswersFirstOn visits text most before after (Err firsts.Memory)
answers_memory visits most {result = Ok x} limit told is = absurd (false≢true is)
answers_memory visits most {result = Err e} limit told is = (told.why, (told.err.tree, told.err.visited, ends_at_limit (most + 1) limit told.err))

-- ---- an answer on a trail with a limit, which is then set back

ends_set_back : (limit : ℕ) (start before after end : Trace) (t : Tree) → before ≡ with_limit limit start → end ≡ with_limit start.most after → EndsWithin before after t → EndsWithin start end t
ends_set_back limit start before after end t began ended (parts, same, front, nodes, most) = (
  ap (λ w. w.components) ended ∙ parts ∙ ap (λ w. w.components) began,
  ap (λ w. w.most) ended,
  omega (arith, front, ap (λ w. w.front) began, ap (λ w. w.front) ended),
  omega (arith, nodes, ap (λ w. w.nodes) began, ap (λ w. w.nodes) ended),
  omega (arith, most, ap (λ w. w.nodes) ended, ap (λ w. (trace_after w t).nodes) began, ap (λ w. w.nodes) (trace_after-limit limit start t)),
)

pub answers_set_back : (visits : Visits) (text : Datum → List ℕ) (most limit : ℕ) (start before after end : Trace) (answer : Result Unit FirstError) → before ≡ with_limit limit start → end ≡ with_limit start.most after → AnswersFirstOn visits text most before after answer → AnswersFirstOn visits text most start end answer
answers_set_back visits text most limit start before after end (Ok _) began ended (none, same) = (none, ended ∙ ap (with_limit start.most) (same ∙ began))
answers_set_back visits text most limit start before after end (Err (firsts.All r)) began ended (few, (t, v, b, is, trail)) = (
  few,
  (t, v, b, is ∙ ap (λ w. flat text w.components t) began, ended ∙ ap (with_limit start.most) (trail ∙ ap (λ w. trace_after w t) began) ∙ trace_after-limit limit start t),
)
answers_set_back visits text most limit start before after end (Err (firsts.First r)) began ended (t, v, first, within) =
    (t, v, subst (λ w. AreFirst most (flat text w.components t) r) began first, ends_set_back limit start before after end (first_faults t (most + 1)) began ended within)
answers_set_back visits text most limit start before after end (Err firsts.Memory) began ended (why, (t, v, within)) =
    (subst (λ w. MayRefuse visits.trees visits.allocates (length w.components)) began why, (t, v, ends_set_back limit start before after end (first_faults t (most + 1)) began ended within))

-- a value that has more faults than some number is not valid
pub decides_more : (visits : Visits) (text : Datum → List ℕ) (most : ℕ) (error : FirstError) {first : Report} → error ≡ firsts.First first → AnswersFirst visits text most (Err error) → Decides visits (Ok false)
decides_more visits text most error is told =
    let (t, v, first) = subst (λ e. AnswersFirst visits text most (Err e)) is told in
    (t, v, bears_of_more text [] t most first.0)

-- where no memory is needed there is no fault
pub surely_first : (visits : Visits) (text : Datum → List ℕ) (most : ℕ) (before after : Trace) (answer : Result Unit FirstError) → AnswersFirstOn visits text most before after answer → NeedsNoMemory visits (length before.components) → IsOk answer
surely_first visits text most before after (Ok _) told needs = refl
surely_first visits text most before after (Err (firsts.All r)) told needs = surely visits text before after (Err (errors.Report r)) told.1 needs
surely_first visits text most before after (Err (firsts.First r)) (t, v, first, within) needs =
    absurd (true≢false (sym (bears_of_more text before.components t most first.0) ∙ needs.none_bears t v))
surely_first visits text most before after (Err firsts.Memory) told needs = absurd (never_refused visits (length before.components) needs told.0)

-- where there is no fault, what the rules ask is known
pub known_first : (visits : Visits) (text : Datum → List ℕ) (most : ℕ) (before after : Trace) (answer : Result Unit FirstError) → AnswersFirstOn visits text most before after answer → OnOk answer (Known visits)
known_first visits text most before after (Ok _) told = known_of visits told.0
known_first visits text most before after (Err e) told = tt

-- of a call that asks for every fault
whole_answers : (visits : Visits) (text : Datum → List ℕ) (before after : Trace) (error : FirstError) → AnswersFirstOn visits text (2 ^ 64 - 1) before after (Err error) → (IsFirst (Err error) → 2 ^ 64 - 1 < 2 ^ 64 - 1) → AnswersOn visits text before after (Err (whole_error error))
whole_answers visits text before after (firsts.All r) told whole = told.1
whole_answers visits text before after (firsts.First r) told whole = let never : 2 ^ 64 - 1 < 2 ^ 64 - 1 = whole tt in absurd (omega (arith, never))
whole_answers visits text before after firsts.Memory (why, (t, v, (parts, same, front, nodes, most))) whole =
    (why, (t, v, (parts, same, front, nodes, omega (arith, most, nodes_of_all before t (2 ^ 64 - 1 + 1)))))

pub answers_whole : (visits : Visits) (text : Datum → List ℕ) (before after : Trace) (error : FirstError) {whole : ValidateError} → whole ≡ whole_error error → AnswersFirstOn visits text (2 ^ 64 - 1) before after (Err error) → (IsFirst (Err error) → 2 ^ 64 - 1 < 2 ^ 64 - 1) → AnswersOn visits text before after (Err whole)
answers_whole visits text before after error is told whole = subst (λ e. AnswersOn visits text before after (Err e)) (sym is) (whole_answers visits text before after error told whole)
