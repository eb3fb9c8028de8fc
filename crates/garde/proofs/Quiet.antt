-- Walks that need no memory: what is put together of such walks is one.
use Rattle.std.proofs.Common.{◌≡◌, ℕ, suc, ◌+◌, ◌≤◌, false, List, [], ◌∷◌, length, Option, Some, None, Result, Ok, Err, refl, ap, subst, ◌∙◌, arith, inl, inr}
use Rattle.std.specs.Result.{IsOk}
use Rattle.std.specs.Prelude.{◌||◌, IfSome}
use Rattle.std.specs.List.{All, Any, enumerate_from}
use Rattle.garde_i18n.specs.Datum.{Datum}
use Rattle.garde_report.specs.Part.{Part, index_part}
use Rattle.garde_report.specs.Report.{Entry}
use Rattle.garde_report.specs.Trace.{Trace}
use Rattle.garde_rules.specs.{Fault}
use Rattle.garde.specs.Tree.{Tree, bears, height}
use Rattle.garde.specs.Trees.{TreesNothing, TreesUnder, TreesBoth, TreesEach}
use Rattle.garde.specs.Laws.{bears-then}
use Rattle.garde.specs.Visits.{Visits, Visited, found, under, ◌and◌, items, optional}
use Rattle.garde.specs.Answers.{NeedsNoMemory}
use Rattle.garde.proofs.Answering.{never_refused}
use Rattle.garde.proofs.Refusals.{height-then}

-- each tree is without a fault, and is not deeper than eight components
record Quiet (trees : Tree → Type 0) (depth : ℕ) : Type 0 where
  silent : (t : Tree) → trees t → bears t ≡ false
  shallow : (t : Tree) → trees t → depth + height t ≤ 8

quiet : {visits : Visits} {depth : ℕ} → NeedsNoMemory visits depth → Quiet visits.trees depth
quiet needs = record { silent = needs.none_bears; shallow = needs.none_deeper }

quiet_nothing : {depth : ℕ} → depth ≤ 8 → Quiet TreesNothing depth
quiet_nothing most = record { silent = λ t is. ap bears is; shallow = λ t is. omega (arith, most, ap height is) }

quiet_under : {trees : Tree → Type 0} {depth : ℕ} (k : Part) → Quiet trees (depth + 1) → Quiet (TreesUnder k trees) depth
quiet_under k inner = record {
  silent = λ t (s, v, is). ap bears is ∙ ap (λ b. b || false) (inner.silent s v);
  shallow = λ t (s, v, is). omega (arith, ap height is, inner.shallow s v);
}

quiet_both : {first second : Tree → Type 0} {depth : ℕ} → Quiet first depth → Quiet second depth → Quiet (TreesBoth first second) depth
quiet_both one two = record {
  silent = λ t (a, b, va, vb, is). ap bears is ∙ bears-then a b ∙ ap (λ x. x || bears b) (one.silent a va) ∙ two.silent b vb;
  shallow = λ t (a, b, va, vb, is). omega (arith, ap height is, height-then a b, one.shallow a va, two.shallow b vb);
}

quiet_items : {A : Type 0} (trees : A → Tree → Type 0) {depth : ℕ} (n : ℕ) (xs : List A) → depth ≤ 8 → All (λ x. Quiet (trees x) (depth + 1)) xs → Quiet (TreesEach index_part trees (enumerate_from n xs)) depth
quiet_items trees n [] most each = quiet_nothing most
quiet_items trees n (x ∷ xs) most each =
    quiet_both (quiet_under (index_part n) (each 0 x (omega arith))) (quiet_items trees (n + 1) xs most (λ k d within. each (suc k) d (omega arith)))

-- what is sure of a whole validation is so of a visit
pub surely_visited : {E : Type 0} {a : Visits} {text : Datum → List ℕ} {before after : Trace} {old new : List Entry} {result : Result Unit E} → Visited a text before after old new result → NeedsNoMemory a (length before.components) → IsOk result
surely_visited {result = Ok x} told needs = refl
surely_visited {a = a} {before = before} {result = Err e} told needs = absurd (never_refused a (length before.components) needs told.why)

allocates_of : {A : Type 0} (P Q : A → Type 0) (xs : List A) → All P xs → ((x : A) → P x → Q x → ⊥) → Any Q xs → ⊥
allocates_of P Q xs all never (k, x, within, is, allocates) = never x (subst P is (all k x within)) allocates

pub no_memory_found : (fault : Option Fault) {depth : ℕ} → fault ≡ None → depth ≤ 8 → NeedsNoMemory (found fault) depth
unfolding found
no_memory_found None is most = record { allocates_nothing = λ h. h; none_bears = λ t v. ap bears v; none_deeper = λ t v. omega (arith, ap height v) }
no_memory_found (Some fault) is most = cc

pub no_memory_under : (k : Part) (a : Visits) {depth : ℕ} → NeedsNoMemory a (depth + 1) → NeedsNoMemory (under k a) depth
unfolding under
no_memory_under k a needs = let each = quiet_under k (quiet needs) in record {
  allocates_nothing = needs.allocates_nothing;
  none_bears = λ t v. each.silent t v;
  none_deeper = λ t v. each.shallow t v;
}

pub no_memory_and : (a b : Visits) {depth : ℕ} → NeedsNoMemory a depth → NeedsNoMemory b depth → NeedsNoMemory (a and b) depth
unfolding ◌and◌
no_memory_and a b first second = let each = quiet_both (quiet first) (quiet second) in record {
  allocates_nothing = λ h. elim h as (λ _. ⊥) [ inl t ↦ first.allocates_nothing t | inr t ↦ second.allocates_nothing t ];
  none_bears = λ t v. each.silent t v;
  none_deeper = λ t v. each.shallow t v;
}

pub no_memory_optional : {A : Type 0} (each : A → Visits) (v : Option A) {depth : ℕ} → depth ≤ 8 → IfSome v (λ x. NeedsNoMemory (each x) depth) → NeedsNoMemory (optional each v) depth
unfolding optional
no_memory_optional each None most needs = record { allocates_nothing = λ h. h; none_bears = λ t v. ap bears v; none_deeper = λ t v. omega (arith, ap height v) }
no_memory_optional each (Some x) most needs = record { allocates_nothing = needs.allocates_nothing; none_bears = needs.none_bears; none_deeper = needs.none_deeper }

pub no_memory_items : {A : Type 0} (each : A → Visits) (xs : List A) {depth : ℕ} → depth ≤ 8 → All (λ x. NeedsNoMemory (each x) (depth + 1)) xs → NeedsNoMemory (items each xs) depth
unfolding items
no_memory_items each xs {depth} most needs =
    let all = quiet_items (λ x. (each x).trees) 0 xs most (λ k d within. quiet (needs k d within)) in record {
      allocates_nothing = allocates_of (λ x. NeedsNoMemory (each x) (depth + 1)) (λ x. (each x).allocates) xs needs (λ x needs allocates. needs.allocates_nothing allocates);
      none_bears = λ t v. all.silent t v;
      none_deeper = λ t v. all.shallow t v;
    }
