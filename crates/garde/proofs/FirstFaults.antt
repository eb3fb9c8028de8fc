-- Lemmas on the first faults of a tree, and on the nodes that they take.
use Rattle.std.proofs.Common.{◌≡◌, ℕ, zero, suc, ◌+◌, ◌-◌, ◌≤◌, Bool, true, false, cond, List, [], ◌∷◌, ◌++◌, length, min, refl, ap, sym, ◌∙◌, inl, inr, arith, length-append}
use Rattle.std.proofs.lemmas.Bool.{true≢false}
use Rattle.garde_i18n.specs.Datum.{Datum}
use Rattle.garde_report.specs.Part.{Part}
use Rattle.garde_report.specs.Report.{Entry}
use Rattle.garde_report.specs.Trace.{Trace, IsTrace, IsKeptOut, with_component, without_last}
use Rattle.garde_rules.specs.{Fault}
use Rattle.garde.specs.Tree.{Tree, nothing, fault, under, ◌then◌, bears, faults, first_faults, flat, nodes}
use Rattle.garde.specs.Walk.{trace_after, room}
use Rattle.garde.specs.Laws.{or_parts}
use Rattle.garde.proofs.Counts.{trace_after-then, trace_after-nodes, trace_after-more, without_last-trace_after}

-- as many are read of a tree as it has
pub length-flat : (text : Datum → List ℕ) (p : List Part) (t : Tree) → length (flat text p t) ≡ faults t
length-flat text p nothing = refl
length-flat text p (fault f t) = omega (arith, length-flat text p t)
length-flat text p (under k s t) =
    omega (arith, length-append (flat text (p ++ k ∷ []) s) (flat text p t), length-flat text (p ++ k ∷ []) s, length-flat text p t)

-- as many as there are, or more, are all
pub first_faults-all : (t : Tree) (n : ℕ) → faults t ≤ n → first_faults t n ≡ t
first_faults-all nothing n enough = refl
first_faults-all (fault f t) zero enough = absurd (omega (arith, enough))
first_faults-all (fault f t) (suc n) enough = ap (fault f) (first_faults-all t n (omega (arith, enough)))
first_faults-all (under k s t) n enough =
    ap (λ x. under k x (first_faults t (n - faults s))) (first_faults-all s n (omega (arith, enough))) ∙ ap (under k s) (first_faults-all t (n - faults s) (omega (arith, enough)))

-- those of one tree and then another
pub first_faults-then : (a b : Tree) (n : ℕ) → first_faults (a then b) n ≡ (first_faults a n then first_faults b (n - faults a))
first_faults-then nothing b n =
    let e : n ≡ n - 0 = omega arith in
    ap (first_faults b) e
first_faults-then (fault f a) b zero =
    let e : 0 - faults a ≡ 0 - (faults a + 1) = omega arith in
    first_faults-then a b zero ∙ ap (λ m. first_faults a zero then first_faults b m) e
first_faults-then (fault f a) b (suc n) =
    let e : n - faults a ≡ suc n - (faults a + 1) = omega arith in
    ap (fault f) (first_faults-then a b n ∙ ap (λ m. first_faults a n then first_faults b m) e)
first_faults-then (under k s a) b n =
    let e : n - faults s - faults a ≡ n - (faults s + faults a) = omega arith in
    ap (under k (first_faults s n)) (first_faults-then a b (n - faults s) ∙ ap (λ m. first_faults a (n - faults s) then first_faults b m) e)

-- ---- more of them

more_bear : (t : Tree) (m n : ℕ) → m ≤ n → bears (first_faults t m) ≡ true → bears (first_faults t n) ≡ true
more_bear nothing m n more e = e
more_bear (fault f t) zero zero more e = e
more_bear (fault f t) zero (suc n) more e = refl
more_bear (fault f t) (suc m) zero more e = absurd (omega (arith, more))
more_bear (fault f t) (suc m) (suc n) more e = refl
more_bear (under k s t) m n more e =
    let here = or_parts (bears (first_faults s n)) (bears (first_faults t (n - faults s))) in
    elim ((or_parts (bears (first_faults s m)) (bears (first_faults t (m - faults s)))).0 e) as (λ _. bears (first_faults (under k s t) n) ≡ true) [ inl h ↦ here.1 (inl (more_bear s m n more h)) | inr h ↦ here.1 (inr (more_bear t (m - faults s) (n - faults s) (omega (arith, more)) h)) ]

more_of_step : (x y : Bool) (m n : ℕ) → (x ≡ true → y ≡ true) → m ≤ n → cond x (m + 1) 0 ≤ cond y (n + 1) 0
more_of_step true true m n bearing more = omega (arith, more)
more_of_step true false m n bearing more = absurd (true≢false (sym (bearing refl)))
more_of_step false y m n bearing more = omega arith

more_nodes : (t : Tree) (m n : ℕ) → m ≤ n → nodes (first_faults t m) ≤ nodes (first_faults t n)
more_nodes nothing m n more = omega arith
more_nodes (fault f t) zero zero more = omega arith
more_nodes (fault f t) zero (suc n) more = more_nodes t zero n (omega arith)
more_nodes (fault f t) (suc m) zero more = absurd (omega (arith, more))
more_nodes (fault f t) (suc m) (suc n) more = more_nodes t m n (omega (arith, more))
more_nodes (under k s t) m n more =
    let step = more_of_step (bears (first_faults s m)) (bears (first_faults s n)) (nodes (first_faults s m)) (nodes (first_faults s n)) (more_bear s m n more) (more_nodes s m n more) in
    omega (arith, step, more_nodes t (m - faults s) (n - faults s) (omega (arith, more)))

-- more of the faults take no fewer nodes, and all of them the most
pub nodes_of_more : (w : Trace) (t : Tree) (m n : ℕ) → m ≤ n → (trace_after w (first_faults t m)).nodes ≤ (trace_after w (first_faults t n)).nodes
nodes_of_more w t m n more = trace_after-more w (first_faults t m) (first_faults t n) (more_bear t m n more) (more_nodes t m n more)

pub nodes_of_all : (w : Trace) (t : Tree) (n : ℕ) → (trace_after w (first_faults t n)).nodes ≤ (trace_after w t).nodes
nodes_of_all w t n =
    let all = first_faults-all t (n + faults t) (omega arith) in
    omega (arith, nodes_of_more w t n (n + faults t) (omega arith), ap (λ s. (trace_after w s).nodes) all)

-- ---- the nodes of a walk that is cut short

-- it made none
pub none_made : (before after : Trace) (t : Tree) → after.nodes ≡ before.nodes → after.nodes ≤ (trace_after before t).nodes
none_made before after t same = omega (arith, same, trace_after-nodes before t)

-- it is cut short in the first of two trees
pub made_in_first : (before after : Trace) (a b : Tree) (n : ℕ) → after.nodes ≤ (trace_after before (first_faults a n)).nodes → after.nodes ≤ (trace_after before (first_faults (a then b) n)).nodes
made_in_first before after a b n made =
    let whole : trace_after (trace_after before (first_faults a n)) (first_faults b (n - faults a)) ≡ trace_after before (first_faults (a then b) n) =
    trace_after-then before (first_faults a n) (first_faults b (n - faults a)) ∙ ap (trace_after before) (sym (first_faults-then a b n)) in
    omega (arith, made, trace_after-nodes (trace_after before (first_faults a n)) (first_faults b (n - faults a)), ap (λ w. w.nodes) whole)

-- or in the second
pub made_in_second : (before mid after : Trace) (a b : Tree) (m n : ℕ) → mid ≡ trace_after before a → faults a ≤ n → m ≡ n - faults a → after.nodes ≤ (trace_after mid (first_faults b m)).nodes → after.nodes ≤ (trace_after before (first_faults (a then b) n)).nodes
made_in_second before mid after a b m n trail enough is made =
    let whole : trace_after mid (first_faults b m) ≡ trace_after before (first_faults (a then b) n) =
    ap (λ w. trace_after w (first_faults b m)) trail ∙ trace_after-then before a (first_faults b m)
    ∙ ap (λ x. trace_after before (x then first_faults b m)) (sym (first_faults-all a n enough))
    ∙ ap (λ k. trace_after before (first_faults a n then first_faults b k)) is
    ∙ ap (trace_after before) (sym (first_faults-then a b n)) in
    omega (arith, made, ap (λ w. w.nodes) whole)

-- or under a component
pub made_under : (before inner mid after : Trace) (k : Part) (s : Tree) (m n : ℕ) → IsTrace before → inner ≡ with_component before k → after.nodes ≡ mid.nodes → m ≡ n → mid.nodes ≤ (trace_after inner (first_faults s m)).nodes → after.nodes ≤ (trace_after before (first_faults (under k s nothing) n)).nodes
made_under before inner mid after k s m n sound push count is made =
    let whole : without_last (trace_after inner (first_faults s m)) ≡ trace_after before (under k (first_faults s n) nothing) =
    ap (λ w. without_last (trace_after w (first_faults s m))) push ∙ ap (λ j. without_last (trace_after (with_component before k) (first_faults s j))) is ∙ without_last-trace_after before k (first_faults s n) sound in
    omega (arith, made, count, ap (λ w. w.nodes) whole)

-- or at a fault that is kept out
pub made_at_fault : (before after : Trace) (old : List Entry) (f : Fault) (n : ℕ) → n ≡ min 1 (room before old) → IsKeptOut before after old → after.nodes ≤ (trace_after before (first_faults (fault f nothing) n)).nodes
made_at_fault before after old f zero is out = omega (arith, ap (λ w. w.nodes) (out.full (omega (arith, is))))
made_at_fault before after old f (suc n) is out = omega (arith, ap (λ w. w.nodes) out.made.made, out.made.within, out.made.grows)
