-- Lemmas on walks by a closure that visits each item.
use Rattle.std.proofs.Common.{◌≡◌, ℕ, zero, suc, ◌+◌, List, [], ◌∷◌, Result, Ok, Err, refl, ap, ◌∙◌, ◌<◌, length, length-append, cond, ◌-◌, true, false, Bool, sym, subst, inl, inr, Bor, MutBor, map, Option, Some, None, option_to_list, string_bytes, arith}
use Rattle.std.specs.Result.{IsErr}
use Rattle.std.specs.List.{Any, Contains, enumerate_from}
use Rattle.std.specs.declared.alloc.AllocError.{AllocError}
use Rattle.std.specs.declared.alloc.Global.{Global}
use Rattle.std.specs.declared.string.String.{String}
use Rattle.garde_i18n.specs.Datum.{Datum}
use Rattle.garde_report.specs.declared.error.component.Component.{Component}
use Rattle.garde_report.specs.declared.error.component.Kind.{Kind}
use Rattle.garde_report.specs.declared.error.component.Kind.TheVariants as kinds
use Rattle.garde_report.specs.Part.{Part, part, part_of, index_part, key_part, unnamed_part}
use Rattle.garde_report.specs.Report.{Entry}
use Rattle.garde_report.specs.Trace.{Trace, capped_sum, with_component}
use Rattle.garde_rules.specs.Inner.{component_items_from, component_items, keyed_items, key_place, component_items-key_place, Answer, Visitor, Called, CalledAtEach, CalledOver}
use Rattle.garde.specs.Laws.{Any-cons, Any-uncons}
use Rattle.garde.specs.Tree.{Tree, ◌then◌, bears, nodes}
use Rattle.garde.specs.Trees.{TreesEach, TreesUnder}
use Rattle.garde.specs.Walk.{trace_after}
use Rattle.garde.specs.Visits.{Visits, Visited, items, entries, each_of_option, optional, none, only, under, ◌and◌}
use Rattle.garde.proofs.Flat.{then-nothing}
use Rattle.garde.proofs.Visiting.{visited_as, visited_then, visited_stop, visited_none}

-- whatever such a closure returns and leaves at an item and a component was a visit of the item under the component
abbrev pub VisitsEach : {A : Type 0} → Visitor A → (A → Visits) → (Datum → List ℕ) → Type 0
VisitsEach {A} post each text =
    (x : Bor A) (k : Component) (t : MutBor Trace) (r : MutBor (List Entry)) (answer : Answer) (t' : MutBor Trace) (r' : MutBor (List Entry))
    → post x k t r answer t' r' → Visited (under (part_of k) (each x.now)) text t.now t'.now r.now r'.now answer

-- each value in turn, as a chain
chain : {A : Type 0} → (A → Visits) → List (Part × A) → Visits
chain each [] = none
chain each (e ∷ es) = under e.0 (each e.1) and chain each es

chain_trees : {A : Type 0} (each : A → Visits) (es : List (Part × A)) (t : Tree) → (chain each es).trees t → TreesEach (λ k. k) (λ x. (each x).trees) es t
unfolding ◌and◌ under none only chain
chain_trees each [] t v = v
chain_trees each (e ∷ es) t (a, b, va, vb, is) = (a, b, va, chain_trees each es b vb, is)

chain_allocates : {A : Type 0} (each : A → Visits) (es : List (Part × A)) → (chain each es).allocates → Any (λ e. (each e.1).allocates) es
unfolding ◌and◌ under none only chain
chain_allocates each [] h = absurd h
chain_allocates each (e ∷ es) (inl h) = Any-cons (λ d. (each d.1).allocates) e es (inl h)
chain_allocates each (e ∷ es) (inr h) = Any-cons (λ d. (each d.1).allocates) e es (inr (chain_allocates each es h))

-- those of items
numbered_trees : {A : Type 0} (each : A → Tree → Type 0) (k : ℕ) (xs : List A) (t : Tree) → TreesEach (λ p. p) each (component_items_from index_part k xs) t → TreesEach index_part each (enumerate_from k xs) t
numbered_trees each k [] t v = v
numbered_trees each k (x ∷ xs) t (a, b, va, vb, is) = (a, b, va, numbered_trees each (k + 1) xs b vb, is)

numbered_allocates : {A : Type 0} (allocates : A → Type 0) (place : ℕ → Part) (k : ℕ) (xs : List A) → Any (λ e. allocates e.1) (component_items_from place k xs) → Any allocates xs
numbered_allocates allocates place k [] (n, y, lt, is, h) = absurd (omega (arith, lt))
numbered_allocates allocates place k (x ∷ xs) (zero, y, lt, is, h) = Any-cons allocates x xs (inl (subst (λ d. allocates d.1) (sym is) h))
numbered_allocates allocates place k (x ∷ xs) (suc n, y, lt, is, h) = Any-cons allocates x xs (inr (numbered_allocates allocates place (k + 1) xs (n, y, omega (arith, lt), is, h)))

module _ {A : Type 0} {post : Visitor A} {text : Datum → List ℕ} (each : A → Visits) (visits : VisitsEach post each text) where
  called_one : (k : Part) (x : A) (t : Trace) (r : List Entry) (answer : Answer) (t' : Trace) (r' : List Entry) → Called post k x t r answer t' r' → Visited (under k (each x)) text t t' r r' answer
  called_one k x t r answer t' r' c =
      subst (λ z. Visited (under k (each z)) text t t' r r' answer) c.at_item
      (subst (λ z. Visited (under z (each c.item.now)) text t t' r r' answer) c.at_component
      (subst (λ z. Visited (under (part_of c.component) (each c.item.now)) text z t' r r' answer) c.trail_was
      (subst (λ z. Visited (under (part_of c.component) (each c.item.now)) text c.trail_before.now z r r' answer) c.trail_is
      (subst (λ z. Visited (under (part_of c.component) (each c.item.now)) text c.trail_before.now c.trail_after.now z r' answer) c.report_was
      (subst (λ z. Visited (under (part_of c.component) (each c.item.now)) text c.trail_before.now c.trail_after.now c.report_before.now z answer) c.report_is
      (visits _ _ _ _ _ _ _ c.met))))))

  called_chain : (es : List (Part × A)) (t : Trace) (r : List Entry) (answer : Answer) (t' : Trace) (r' : List Entry) → CalledAtEach post es t r answer t' r' → Visited (chain each es) text t t' r r' answer
  unfolding chain
  called_chain [] t r answer t' r' (is, st, sr) =
      subst (λ z. Visited none text t t' r r' z) (sym is) (subst (λ z. Visited {E = AllocError} none text t z r r' (Ok tt)) (sym st) (subst (λ z. Visited {E = AllocError} none text t t r z (Ok tt)) (sym sr) visited_none))
  called_chain (e ∷ es) t r answer t' r' (Ok x, t1, r1, one, rest) =
      visited_then _ _ (called_one e.0 e.1 t r (Ok x) t1 r1 one) refl (called_chain es t1 r1 answer t' r' rest)
  called_chain (e ∷ es) t r answer t' r' (Err f, t1, r1, one, (is, st, sr)) =
      subst (λ z. Visited (under e.0 (each e.1) and chain each es) text t z r r' answer) (sym st)
      (subst (λ z. Visited (under e.0 (each e.1) and chain each es) text t t1 r z answer) (sym sr)
      (visited_stop _ _ (called_one e.0 e.1 t r (Err f) t1 r1 one) refl (subst IsErr (sym is) refl)))

  pub visited_chain : (es : List (Part × A)) {before after : Trace} {old new : List Entry} {result : Answer} → CalledAtEach post es before old result after new → Visited (entries (λ k. k) each es) text before after old new result
  unfolding entries
  visited_chain es called = visited_as (chain_trees each es) (chain_allocates each es) (called_chain es _ _ _ _ _ called)

none_allocates : {A : Type 0} (each : A → Visits) → Any {X = Part × A} (λ e. (each e.1).allocates) [] → ⊥
none_allocates each (n, y, lt, is, h) = omega (arith, lt)

-- a closure that visits each value under its component was called at each
pub visited_component_calls : {A : Type 0} (post : Visitor A) (text : Datum → List ℕ) (each : A → Visits) (place : ℕ → Part) (xs : List A) {before after : Trace} {old new : List Entry} {result : Answer} → CalledOver post (component_items place xs) before old result after new → VisitsEach post each text → Visited (entries (λ k. k) each (component_items place xs)) text before after old new result
visited_component_calls post text each place xs called visits = visited_chain each visits (component_items place xs) called.calls

-- the same of items under their indexes
pub visited_calls : {A : Type 0} (post : Visitor A) (text : Datum → List ℕ) (each : A → Visits) (xs : List A) {before after : Trace} {old new : List Entry} {result : Answer} → CalledOver post (component_items index_part xs) before old result after new → VisitsEach post each text → Visited (items each xs) text before after old new result
unfolding items entries
visited_calls post text each xs called visits = visited_as
    (λ t v. numbered_trees (λ x. (each x).trees) 0 xs t v)
    (λ h. numbered_allocates (λ x. (each x).allocates) index_part 0 xs h)
    (visited_chain each visits (component_items index_part xs) called.calls)

-- the same of what an option holds
pub visited_option_calls : {A : Type 0} (post : Visitor A) (text : Datum → List ℕ) (each : A → Visits) (v : Option A) {before after : Trace} {old new : List Entry} {result : Answer} → CalledOver post (component_items (λ _. unnamed_part) (option_to_list v)) before old result after new → VisitsEach post each text → Visited (each_of_option each v) text before after old new result
unfolding optional entries under
visited_option_calls {A = A} post text each None called visits = visited_as (λ t v. v) (none_allocates each) (visited_chain each visits [] called.calls)
visited_option_calls {A = A} post text each (Some x) called visits = visited_as
    (λ t (a, b, va, vb, is). subst (TreesUnder unnamed_part (each x).trees) (sym (is ∙ ap (λ s. a then s) vb ∙ then-nothing a)) va)
    (λ h. elim (Any-uncons {A = Part × A} (λ e. (each e.1).allocates) (unnamed_part, x) [] h) as (λ _. (each x).allocates) [ inl l ↦ l | inr r ↦ absurd (none_allocates each r) ])
    (visited_chain each visits ((unnamed_part, x) ∷ []) called.calls)

keyed_trees : {K A : Type 0} (kind : Kind) (key : K → List ℕ) (each : A → Tree → Type 0) (es : List (K × A)) (t : Tree) → TreesEach (λ p. p) each (keyed_items kind key es) t → TreesEach (λ k. part kind (key k)) each es t
keyed_trees kind key each [] t v = v
keyed_trees kind key each (e ∷ es) t (a, b, va, vb, is) = (a, b, va, keyed_trees kind key each es b vb, is)

keyed_allocates : {K A : Type 0} (kind : Kind) (key : K → List ℕ) (allocates : A → Type 0) (es : List (K × A)) → Any {X = Part × A} (λ e. allocates e.1) (keyed_items kind key es) → Any (λ e. allocates e.1) es
keyed_allocates kind key allocates [] (n, y, lt, is, h) = absurd (omega (arith, lt))
keyed_allocates kind key allocates (e ∷ es) (zero, y, lt, is, h) = Any-cons (λ d. allocates d.1) e es (inl (subst (λ d. allocates d.1) (sym is) h))
keyed_allocates kind key allocates (e ∷ es) (suc n, y, lt, is, h) = Any-cons (λ d. allocates d.1) e es (inr (keyed_allocates kind key allocates es (n, y, omega (arith, lt), is, h)))

-- the same of values under the components of their keys
pub visited_keyed_calls : {K A : Type 0} (post : Visitor A) (text : Datum → List ℕ) (kind : Kind) (key : K → List ℕ) (each : A → Visits) (es : List (K × A)) {before after : Trace} {old new : List Entry} {result : Answer} → CalledOver post (component_items (key_place kind key es) (map (λ e. e.1) es)) before old result after new → VisitsEach post each text → Visited (entries (λ k. part kind (key k)) each es) text before after old new result
unfolding entries
visited_keyed_calls post text kind key each es {before} {after} {old} {new} {result} called visits = visited_as
    (λ t v. keyed_trees kind key (λ x. (each x).trees) es t v)
    (λ h. keyed_allocates kind key (λ x. (each x).allocates) es h)
    (visited_chain each visits (keyed_items kind key es) (subst (λ ds. CalledAtEach post ds before old result after new) (component_items-key_place kind key es) called.calls))

-- the same where the keys are texts
pub visited_text_calls : {A : Type 0} (post : Visitor A) (text : Datum → List ℕ) (each : A → Visits) (es : List (String Global × A)) {before after : Trace} {old new : List Entry} {result : Answer} → CalledOver post (component_items (key_place kinds.Key string_bytes es) (map (λ e. e.1) es)) before old result after new → VisitsEach post each text → Visited (entries (λ k. key_part (string_bytes k)) each es) text before after old new result
visited_text_calls post text each es called visits = visited_keyed_calls post text kinds.Key string_bytes each es called visits

kept_by : (w : Trace) (b : Bool) (n : ℕ) → (cond b (record w { front = length w.components; nodes = capped_sum w.nodes (length w.components - w.front + n) }) w).components ≡ w.components
kept_by w true n = refl
kept_by w false n = refl

-- the trail of a whole walk has the components of before
kept : (w : Trace) (t : Tree) → (trace_after w t).components ≡ w.components
kept w t = kept_by w (bears t) (nodes t)

-- a visit keeps the components of the trail
pub visited_keeps : {E : Type 0} {a : Visits} {text : Datum → List ℕ} {before after : Trace} {old new : List Entry} {result : Result Unit E} → Visited a text before after old new result → after.components ≡ before.components
visited_keeps {before = before} {result = Ok x} told = ap (λ w. w.components) told.ok.trail ∙ kept before told.ok.tree
visited_keeps {result = Err e} told = told.err.components

-- so what was pushed before it can be popped after it
pub visited_poppable : {E : Type 0} {a : Visits} {text : Datum → List ℕ} (start : Trace) (k : Part) {before after : Trace} {old new : List Entry} {result : Result Unit E} → before ≡ with_component start k → Visited a text before after old new result → 0 < length after.components
visited_poppable start k {after = after} push told =
    let same : length after.components ≡ length start.components + 1 = ap length (visited_keeps told ∙ ap (λ w. w.components) push) ∙ length-append start.components (k ∷ []) in
    omega (arith, same)

-- an item among those with their components is an item
pub component_items_item : {A : Type 0} (place : ℕ → Part) (k : ℕ) (xs : List A) (p : Part) (x : A) → Contains (component_items_from place k xs) (p, x) → Contains xs x
component_items_item place k [] p x (n, lt, is) = absurd (omega (arith, lt))
component_items_item place k (y ∷ ys) p x (zero, lt, is) = (0, omega arith, ap (λ e. e.1) is)
component_items_item place k (y ∷ ys) p x (suc n, lt, is) =
    let (m, less, same) = component_items_item place (k + 1) ys p x (n, omega (arith, lt), is) in
    (suc m, omega (arith, less), same)
