-- Lemmas on the nodes that a walk makes.
use Rattle.std.proofs.Common.{◌≡◌, ℕ, suc, ◌+◌, ◌-◌, ◌≤◌, Bool, true, false, ◌||◌, cond, List, [], ◌∷◌, ◌++◌, length, take, refl, ap, sym, ◌∙◌, arith, length-append}
use Rattle.std.proofs.lemmas.Bool.{true≢false}
use Rattle.garde_report.specs.Part.{Part}
use Rattle.garde.specs.Tree.{Tree, nothing, fault, under, ◌then◌, bears, nodes}
use Rattle.garde_report.specs.Trace.{Trace, IsTrace, capped_sum, with_component, with_limit, without_last}
use Rattle.garde.specs.Walk.{trace_after}
use Rattle.garde.specs.Laws.{bears-then}
use Rattle.garde.proofs.Flat.{or_false}

pub nodes-then : (a b : Tree) → nodes (a then b) ≡ nodes a + nodes b
nodes-then nothing b = omega arith
nodes-then (fault f a) b = nodes-then a b
nodes-then (under k s a) b = omega (arith, nodes-then a b)

pub nodes_of_no_fault : (t : Tree) → bears t ≡ false → nodes t ≡ 0
nodes_of_no_fault nothing e = refl
nodes_of_no_fault (fault f t) e = absurd (true≢false e)
nodes_of_no_fault (under k s t) e =
    let parts = or_false (bears s) (bears t) e in
    rw parts.0 (omega (arith, nodes_of_no_fault t parts.1))

-- the walk of a tree with a fault or without, with so many nodes
abbrev pub trace_by : Trace → Bool → ℕ → Trace
trace_by w b n = cond b (record w { front = length w.components; nodes = capped_sum w.nodes (length w.components - w.front + n) }) w

pub same_trace : {ps qs : List Part} {f g m n most : ℕ} → ps ≡ qs → f ≡ g → m ≡ n → ◌≡◌ {A = Trace} (record { components = ps; front = f; nodes = m; most = most }) (record { components = qs; front = g; nodes = n; most = most })
same_trace p q r = cc

trace_twice : (w : Trace) (x y : Bool) (m n : ℕ) → (x ≡ false → m ≡ 0) → (y ≡ false → n ≡ 0) → trace_by (trace_by w x m) y n ≡ trace_by w (x || y) (m + n)
trace_twice w true true m n zx zy = same_trace refl refl (omega arith)
trace_twice w true false m n zx zy = same_trace refl refl (omega (arith, zy refl))
trace_twice w false true m n zx zy = same_trace refl refl (omega (arith, zx refl))
trace_twice w false false m n zx zy = refl

-- walking one tree and then another is walking both
pub trace_after-then : (w : Trace) (a b : Tree) → trace_after (trace_after w a) b ≡ trace_after w (a then b)
trace_after-then w a b =
    trace_twice w (bears a) (bears b) (nodes a) (nodes b) (nodes_of_no_fault a) (nodes_of_no_fault b)
    ∙ ap (λ x. trace_by w x (nodes a + nodes b)) (sym (bears-then a b)) ∙ ap (trace_by w (bears (a then b))) (sym (nodes-then a b))

-- the components without the last
pub front_of_push : (ps : List Part) (k : Part) → take (length (ps ++ k ∷ []) - 1) (ps ++ k ∷ []) ≡ ps
front_of_push [] k = refl
front_of_push (p ∷ ps) k =
    let e : length (p ∷ ps ++ k ∷ []) - 1 ≡ suc (length (ps ++ k ∷ []) - 1) = omega (arith, length-append ps (k ∷ [])) in
    rw e (ap (λ qs. p ∷ qs) (front_of_push ps k))

trace_under : (w : Trace) (k : Part) (b : Bool) (n : ℕ) → IsTrace w → without_last (trace_by (with_component w k) b n) ≡ trace_by w (b || false) (cond b (n + 1) 0 + 0)
trace_under w k true n is =
    let e = front_of_push w.components k in
    same_trace e (omega (arith, ap length e, length-append w.components (k ∷ []))) (omega (arith, length-append w.components (k ∷ [])))
trace_under w k false n is =
    let e = front_of_push w.components k in
    same_trace e (omega (arith, ap length e, length-append w.components (k ∷ []))) refl

-- walking under a component and coming back
pub without_last-trace_after : (w : Trace) (k : Part) (s : Tree) → IsTrace w → without_last (trace_after (with_component w k) s) ≡ trace_after w (under k s nothing)
without_last-trace_after w k s is = trace_under w k (bears s) (nodes s) is

by_parts : (w : Trace) (b : Bool) (n : ℕ) → (trace_by w b n).components ≡ w.components
by_parts w true n = refl
by_parts w false n = refl

by_limit : (w : Trace) (b : Bool) (n : ℕ) → (trace_by w b n).most ≡ w.most
by_limit w true n = refl
by_limit w false n = refl

by_count : (w : Trace) (b : Bool) (n : ℕ) → w.nodes ≤ (trace_by w b n).nodes
by_count w true n = omega arith
by_count w false n = omega arith

by_front : (w : Trace) (b : Bool) (n : ℕ) → w.front ≤ length w.components → w.front ≤ (trace_by w b n).front
by_front w true n is = is
by_front w false n is = omega arith

pub trace_after-components : (w : Trace) (t : Tree) → (trace_after w t).components ≡ w.components
trace_after-components w t = by_parts w (bears t) (nodes t)

pub trace_after-most : (w : Trace) (t : Tree) → (trace_after w t).most ≡ w.most
trace_after-most w t = by_limit w (bears t) (nodes t)

pub trace_after-nodes : (w : Trace) (t : Tree) → w.nodes ≤ (trace_after w t).nodes
trace_after-nodes w t = by_count w (bears t) (nodes t)

pub trace_after-none : (w : Trace) (t : Tree) → bears t ≡ false → trace_after w t ≡ w
trace_after-none w t e = ap (λ b. trace_by w b (nodes t)) e

pub trace_after-front : (w : Trace) (t : Tree) → IsTrace w → w.front ≤ (trace_after w t).front
trace_after-front w t is = by_front w (bears t) (nodes t) is.within

-- a walk with a limit that is then set back
limited_by : (most : ℕ) (w : Trace) (b : Bool) (n : ℕ) → with_limit w.most (trace_by (with_limit most w) b n) ≡ trace_by w b n
limited_by most w true n = refl
limited_by most w false n = refl

pub trace_after-limit : (most : ℕ) (w : Trace) (t : Tree) → with_limit w.most (trace_after (with_limit most w) t) ≡ trace_after w t
trace_after-limit most w t = limited_by most w (bears t) (nodes t)

-- more nodes, where there is a fault
by_more : (w : Trace) (x y : Bool) (m n : ℕ) → (x ≡ true → y ≡ true) → m ≤ n → (trace_by w x m).nodes ≤ (trace_by w y n).nodes
by_more w true true m n bears more = omega (arith, more)
by_more w true false m n bears more = absurd (true≢false (sym (bears refl)))
by_more w false y m n bears more = by_count w y n

pub trace_after-more : (w : Trace) (s t : Tree) → (bears s ≡ true → bears t ≡ true) → nodes s ≤ nodes t → (trace_after w s).nodes ≤ (trace_after w t).nodes
trace_after-more w s t bearing more = by_more w (bears s) (bears t) (nodes s) (nodes t) bearing more

-- what a pop leaves of what was pushed
pub without_last-components : (w : Trace) (ps : List Part) (k : Part) → w.components ≡ ps ++ k ∷ [] → (without_last w).components ≡ ps
without_last-components w ps k e = ap (λ qs. take (length qs - 1) qs) e ∙ front_of_push ps k
