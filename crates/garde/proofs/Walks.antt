-- Lemmas on what a visit leaves.
use Rattle.std.proofs.Common.{◌≡◌, ℕ, ◌+◌, ◌-◌, ◌≤◌, min, List, [], ◌∷◌, ◌++◌, length, Option, Some, None, IsSome, Result, Ok, Err, refl, ap, sym, subst, ◌∙◌, append_assoc, append-nil, IsTrue, arith, length-append}
use Rattle.std.proofs.lemmas.Bool.{true≢false}
use Rattle.std.specs.Prelude.{IsSomeAnd}
use Rattle.garde_i18n.specs.Datum.{Datum}
use Rattle.garde_report.specs.Part.{Part}
use Rattle.garde_report.specs.Report.{Entry}
use Rattle.garde_report.specs.Trace.{Trace, IsTrace, with_component, without_last, IsPut, IsNotPut}
use Rattle.garde_report.specs.declared.error.rule_error.RuleError.{RuleError}
use Rattle.garde_report.specs.declared.error.rule_error.RuleError.TheVariants as errors
use Rattle.garde_rules.specs.{Fault, Applies}
use Rattle.garde.specs.Tree.{Tree, nothing, under, ◌then◌, bears, faults, first_faults, flat, found_tree}
use Rattle.garde.specs.Trees.{HasTree, TreesNothing, TreesUnder, TreesBoth, TreesEach}
use Rattle.garde.specs.Laws.{each_has_tree}
use Rattle.garde.specs.Walk.{trace_after, room, Walked, WalkedPartly}
use Rattle.garde.proofs.Flat.{then-nothing, then_assoc, flat-then}
use Rattle.garde.proofs.Counts.{trace_after-then, without_last-trace_after, trace_after-components, trace_after-most, trace_after-nodes, trace_after-front, without_last-components, same_trace}
use Rattle.garde.proofs.FirstFaults.{length-flat, none_made, made_in_first, made_in_second, made_under, made_at_fault}

module _ {text : Datum → List ℕ} where
  -- nothing is said yet, and nothing made
  pub silent_partly : {trees : Tree → Type 0} {before after : Trace} {old new : List Entry} → HasTree trees → new ≡ old → after ≡ before → WalkedPartly trees text before after old new
  silent_partly {before = before} {after} {old} has same still = record {
    tree = has.0;
    visited = has.1;
    said = [];
    unsaid = flat text before.components has.0;
    cut = refl;
    report = same ∙ sym (append-nil old);
    fits = omega (arith, ap length same);
    components = ap (λ w. w.components) still;
    limit = ap (λ w. w.most) still;
    front = omega (arith, ap (λ w. w.front) still);
    nodes = omega (arith, ap (λ w. w.nodes) still);
    most = none_made before after (first_faults has.0 (min 1 (room before old))) (ap (λ w. w.nodes) still);
  }

  pub nothing_walked : {walk : Trace} {old : List Entry} → Walked TreesNothing text walk walk old old
  nothing_walked {old = old} = record { tree = nothing; visited = refl; report = sym (append-nil old); fits = omega arith; trail = refl; front = omega arith }

  -- ---- a component

  pub under_walked : {trees : Tree → Type 0} {before inner mid after : Trace} {old new : List Entry} (k : Part) → IsTrace before → inner ≡ with_component before k → Walked trees text inner mid old new → after ≡ without_last mid → Walked (TreesUnder k trees) text before after old new
  under_walked {before = before} {inner} {mid} {after} {old} k sound push told pop =
      let back : after ≡ trace_after before (under k told.tree nothing) =
      pop ∙ ap without_last told.trail ∙ ap (λ w. without_last (trace_after w told.tree)) push ∙ without_last-trace_after before k told.tree sound in
      record {
        tree = under k told.tree nothing;
        visited = (told.tree, told.visited, refl);
        report = told.report ∙ ap (λ w. old ++ flat text w.components told.tree) push ∙ ap (λ ls. old ++ ls) (sym (append-nil (flat text (before.components ++ k ∷ []) told.tree)));
        fits = omega (arith, told.fits, ap (λ w. w.most) push);
        trail = back;
        front = omega (arith, trace_after-front before (under k told.tree nothing) sound, ap (λ w. w.front) back);
      }

  pub under_partly : {trees : Tree → Type 0} {before inner mid after : Trace} {old new : List Entry} (k : Part) → IsTrace before → inner ≡ with_component before k → WalkedPartly trees text inner mid old new → after ≡ without_last mid → WalkedPartly (TreesUnder k trees) text before after old new
  under_partly {before = before} {inner} {mid} {after} {old} k sound push told pop =
      let parts = without_last-components mid before.components k (told.components ∙ ap (λ w. w.components) push) in
      let count : after.nodes ≡ mid.nodes = ap (λ w. w.nodes) pop in
      let limit : inner.most ≡ before.most = ap (λ w. w.most) push in
      record {
        tree = under k told.tree nothing;
        visited = (told.tree, told.visited, refl);
        said = told.said;
        unsaid = told.unsaid;
        cut = append-nil (flat text (before.components ++ k ∷ []) told.tree) ∙ ap (λ w. flat text w.components told.tree) (sym push) ∙ told.cut;
        report = told.report;
        fits = omega (arith, told.fits, limit);
        components = ap (λ w. w.components) pop ∙ parts;
        limit = ap (λ w. w.most) pop ∙ told.limit ∙ limit;
        front = omega (arith, told.front, ap (λ w. w.front) push, sound.within, ap length (told.components ∙ ap (λ w. w.components) push) ∙ length-append before.components (k ∷ []), ap (λ w. w.front) pop);
        nodes = omega (arith, told.nodes, ap (λ w. w.nodes) push, count);
        most = made_under before inner mid after k told.tree (min (length told.said + 1) (room inner old)) (min (length told.said + 1) (room before old)) sound push count (ap (λ most. min (length told.said + 1) (most - length old)) limit) told.most;
      }

  -- ---- one after the other

  pub both_walked : {first second : Tree → Type 0} {before mid after : Trace} {old between new : List Entry} → Walked first text before mid old between → Walked second text mid after between new → Walked (TreesBoth first second) text before after old new
  both_walked {before = before} {mid} {old = old} {between} a b =
      let parts : mid.components ≡ before.components = ap (λ w. w.components) a.trail ∙ trace_after-components before a.tree in
      record {
        tree = a.tree then b.tree;
        visited = (a.tree, b.tree, a.visited, b.visited, refl);
        report = b.report ∙ ap (λ ps. between ++ flat text ps b.tree) parts ∙ ap (λ ls. ls ++ flat text before.components b.tree) a.report
            ∙ append_assoc old (flat text before.components a.tree) (flat text before.components b.tree) ∙ ap (λ ls. old ++ ls) (sym (flat-then text before.components a.tree b.tree));
        fits = omega (arith, a.fits, b.fits, ap (λ w. w.most) a.trail, trace_after-most before a.tree);
        trail = b.trail ∙ ap (λ w. trace_after w b.tree) a.trail ∙ trace_after-then before a.tree b.tree;
        front = omega (arith, a.front, b.front);
      }

  -- the first is cut short
  pub first_partly : {first second : Tree → Type 0} {before after : Trace} {old new : List Entry} → WalkedPartly first text before after old new → HasTree second → WalkedPartly (TreesBoth first second) text before after old new
  first_partly {before = before} {after} {old} a b = record {
    tree = a.tree then b.0;
    visited = (a.tree, b.0, a.visited, b.1, refl);
    said = a.said;
    unsaid = a.unsaid ++ flat text before.components b.0;
    cut = flat-then text before.components a.tree b.0 ∙ ap (λ ls. ls ++ flat text before.components b.0) a.cut ∙ append_assoc a.said a.unsaid (flat text before.components b.0);
    report = a.report;
    fits = a.fits;
    components = a.components;
    limit = a.limit;
    front = a.front;
    nodes = a.nodes;
    most = made_in_first before after a.tree b.0 (min (length a.said + 1) (room before old)) a.most;
  }

  -- the second is
  pub second_partly : {first second : Tree → Type 0} {before mid after : Trace} {old between new : List Entry} → Walked first text before mid old between → WalkedPartly second text mid after between new → WalkedPartly (TreesBoth first second) text before after old new
  second_partly {before = before} {mid} {after} {old} {between} a b =
      let parts : mid.components ≡ before.components = ap (λ w. w.components) a.trail ∙ trace_after-components before a.tree in
      let limit : mid.most ≡ before.most = ap (λ w. w.most) a.trail ∙ trace_after-most before a.tree in
      let first = flat text before.components a.tree in
      let all : length first ≡ faults a.tree = length-flat text before.components a.tree in
      let grown : length between ≡ length old + length first = ap length a.report ∙ length-append old first in
      let joined : length (first ++ b.said) ≡ length first + length b.said = length-append first b.said in
      let enough : faults a.tree ≤ min (length (first ++ b.said) + 1) (before.most - length old) = omega (arith, all, grown, joined, a.fits) in
      let left : min (length b.said + 1) (mid.most - length between) ≡ min (length (first ++ b.said) + 1) (before.most - length old) - faults a.tree =
      omega (arith, all, grown, joined, a.fits, limit) in
      record {
        tree = a.tree then b.tree;
        visited = (a.tree, b.tree, a.visited, b.visited, refl);
        said = flat text before.components a.tree ++ b.said;
        unsaid = b.unsaid;
        cut = flat-then text before.components a.tree b.tree ∙ ap (λ ps. flat text before.components a.tree ++ flat text ps b.tree) (sym parts)
            ∙ ap (λ ls. flat text before.components a.tree ++ ls) b.cut ∙ sym (append_assoc (flat text before.components a.tree) b.said b.unsaid);
        report = b.report ∙ ap (λ ls. ls ++ b.said) a.report ∙ append_assoc old (flat text before.components a.tree) b.said;
        fits = omega (arith, a.fits, b.fits, limit);
        components = b.components ∙ parts;
        limit = b.limit ∙ limit;
        front = omega (arith, a.front, b.front);
        nodes = omega (arith, ap (λ w. w.nodes) a.trail, trace_after-nodes before a.tree, b.nodes);
        most = made_in_second before mid after a.tree b.tree (min (length b.said + 1) (room mid between)) (min (length (first ++ b.said) + 1) (room before old)) a.trail enough left b.most;
      }

-- ---- one tree for another

pub walked_as : {trees others : Tree → Type 0} {text : Datum → List ℕ} {before after : Trace} {old new : List Entry} → ((t : Tree) → trees t → others t) → Walked trees text before after old new → Walked others text before after old new
walked_as same told = record { tree = told.tree; visited = same told.tree told.visited; report = told.report; fits = told.fits; trail = told.trail; front = told.front }

pub partly_as : {trees others : Tree → Type 0} {text : Datum → List ℕ} {before after : Trace} {old new : List Entry} → ((t : Tree) → trees t → others t) → WalkedPartly trees text before after old new → WalkedPartly others text before after old new
partly_as same told = record {
  tree = told.tree;
  visited = same told.tree told.visited;
  said = told.said;
  unsaid = told.unsaid;
  cut = told.cut;
  report = told.report;
  fits = told.fits;
  components = told.components;
  limit = told.limit;
  front = told.front;
  nodes = told.nodes;
  most = told.most;
}

-- ---- what a rule finds

-- a fault that was found, and what is said of it
some_fault : {P : Fault → Type 0} (found : Option Fault) → IsSomeAnd found P → (f : Fault) × (found ≡ Some f) × P f
some_fault None h = absurd h
some_fault (Some f) h = (f, refl, h)

found_some : (found : Option Fault) → IsSome found → (f : Fault) × (found ≡ Some f)
found_some None h = absurd (true≢false (sym h))
found_some (Some f) h = (f, refl)

-- what a rule returned was put
pub rule_walked : {text : Datum → List ℕ} {before after : Trace} {old new : List Entry} (found : Option Fault) (outcome : Result Unit RuleError) → IsTrace before → Applies found text outcome → IsPut outcome before after old new → Walked (λ t. t ≡ found_tree found) text before after old new
rule_walked {before = before} {old = old} found (Ok _) sound applies (put, same) = record {
  tree = nothing;
  visited = sym (ap found_tree applies);
  report = same ∙ sym (append-nil old);
  fits = omega (arith, ap length same);
  trail = put;
  front = omega (arith, ap (λ w. w.front) put);
}
rule_walked {before = before} {old = old} found (Err (errors.Fault message)) sound applies (put, more, less) =
    let (f, is, says) = some_fault found applies in
    let longer = ap length more ∙ length-append old ((before.components, message) ∷ []) in
    record {
      tree = found_tree (Some f);
      visited = sym (ap found_tree is);
      report = more ∙ ap (λ m. old ++ (before.components, m) ∷ []) says;
      fits = omega (arith, longer, less);
      trail = put ∙ same_trace refl refl (omega arith);
      front = omega (arith, sound.within, ap (λ w. w.front) put);
    }
rule_walked found (Err errors.Memory) sound applies put = absurd put

refused_most : (text : Datum → List ℕ) (before after : Trace) (old : List Entry) (found : Option Fault) (outcome : Result Unit RuleError) → Applies found text outcome → IsNotPut outcome before after old → after.nodes ≤ (trace_after before (first_faults (found_tree found) (min 1 (room before old)))).nodes
refused_most text before after old found (Ok _) applies refused = absurd refused
refused_most text before after old found (Err (errors.Fault message)) applies refused =
    let (f, is, says) = some_fault found applies in
    subst (λ o. after.nodes ≤ (trace_after before (first_faults (found_tree o) (min 1 (room before old)))).nodes) (sym is) (made_at_fault before after old f (min 1 (room before old)) refl refused)
refused_most text before after old found (Err errors.Memory) applies refused = none_made before after (first_faults (found_tree found) (min 1 (room before old))) (ap (λ w. w.nodes) refused)

refused_grows : (before after : Trace) (old : List Entry) (outcome : Result Unit RuleError) → IsNotPut outcome before after old → (after.components ≡ before.components) × (after.most ≡ before.most) × (before.front ≤ after.front) × (before.nodes ≤ after.nodes)
refused_grows before after old (Ok _) refused = absurd refused
refused_grows before after old (Err (errors.Fault message)) refused =
    let made = refused.made.made in
    (ap (λ w. w.components) made, ap (λ w. w.most) made, refused.made.grows, omega (arith, ap (λ w. w.nodes) made))
refused_grows before after old (Err errors.Memory) refused =
    (ap (λ w. w.components) refused, ap (λ w. w.most) refused, omega (arith, ap (λ w. w.front) refused), omega (arith, ap (λ w. w.nodes) refused))

-- what a rule returned could not be put
pub rule_partly : {text : Datum → List ℕ} {before after : Trace} {old new : List Entry} (found : Option Fault) (outcome : Result Unit RuleError) → Applies found text outcome → IsNotPut outcome before after old → new ≡ old → WalkedPartly (λ t. t ≡ found_tree found) text before after old new
rule_partly {text} {before} {after} {old} found outcome applies refused same =
    let (parts, limit, front, nodes) = refused_grows before after old outcome refused in
    record {
      tree = found_tree found;
      visited = refl;
      said = [];
      unsaid = flat text before.components (found_tree found);
      cut = refl;
      report = same ∙ sym (append-nil old);
      fits = omega (arith, ap length same);
      components = parts;
      limit = limit;
      front = front;
      nodes = nodes;
      most = refused_most text before after old found outcome applies refused;
    }

-- only the fault of a rule that found something cannot be put
pub rule_bears : (text : Datum → List ℕ) (before after : Trace) (old : List Entry) (found : Option Fault) (outcome : Result Unit RuleError) → Applies found text outcome → IsNotPut outcome before after old → IsTrue (bears (found_tree found))
rule_bears text before after old found (Ok _) applies refused = absurd refused
rule_bears text before after old found (Err (errors.Fault message)) applies refused = let (f, is, says) = some_fault found applies in ap (λ o. bears (found_tree o)) is
rule_bears text before after old found (Err errors.Memory) applies refused = let (f, is) = found_some found applies in ap (λ o. bears (found_tree o)) is

-- ---- item by item

-- of all items, those before rest are walked
pub record WalkedUpTo {K A : Type 0} (part : K → Part) (trees : A → Tree → Type 0) (text : Datum → List ℕ) (all rest : List (K × A)) (before after : Trace) (old new : List Entry) : Type 0 where
  pub done : List (K × A)
  pub split : all ≡ done ++ rest
  pub told : Walked (TreesEach part trees done) text before after old new

-- the trees of some items and of more
pub each_append : {K A : Type 0} (part : K → Part) (trees : A → Tree → Type 0) (done rest : List (K × A)) (t : Tree) → TreesBoth (TreesEach part trees done) (TreesEach part trees rest) t → TreesEach part trees (done ++ rest) t
each_append part trees [] rest t (a, b, va, vb, is) = subst (TreesEach part trees rest) (sym (is ∙ ap (λ s. s then b) va)) vb
each_append part trees (d ∷ done) rest t (a, b, (a0, a1, va0, va1, ais), vb, is) =
    (a0, a1 then b, va0, each_append part trees done rest (a1 then b) (a1, b, va1, vb, refl), is ∙ ap (λ s. s then b) ais ∙ then_assoc a0 a1 b)

each_one : {K A : Type 0} (part : K → Part) (trees : A → Tree → Type 0) (e : K × A) (t : Tree) → TreesUnder (part e.0) (trees e.1) t → TreesEach part trees (e ∷ []) t
each_one part trees e t v = (t, nothing, v, refl, sym (then-nothing t))

module _ {K A : Type 0} {part : K → Part} {trees : A → Tree → Type 0} {text : Datum → List ℕ} where
  pub up_to_start : {all rest : List (K × A)} {walk : Trace} {old : List Entry} → rest ≡ all → WalkedUpTo part trees text all rest walk walk old old
  up_to_start same = record { done = []; split = sym same; told = nothing_walked }

  pub up_to_more : {all rest left : List (K × A)} {e : K × A} {before mid after : Trace} {old between new : List Entry} → WalkedUpTo part trees text all rest before mid old between → rest ≡ e ∷ left → Walked (TreesUnder (part e.0) (trees e.1)) text mid after between new → WalkedUpTo part trees text all left before after old new
  up_to_more {left = left} {e} so_far step more = record {
    done = so_far.done ++ e ∷ [];
    split = so_far.split ∙ ap (λ es. so_far.done ++ es) step ∙ sym (append_assoc so_far.done (e ∷ []) left);
    told = walked_as (λ t (a, b, va, vb, is). each_append part trees so_far.done (e ∷ []) t (a, b, va, each_one part trees e b vb, is)) (both_walked so_far.told more);
  }

  pub up_to_all : {all rest : List (K × A)} {before after : Trace} {old new : List Entry} → WalkedUpTo part trees text all rest before after old new → rest ≡ [] → Walked (TreesEach part trees all) text before after old new
  up_to_all so_far none =
      walked_as (λ t. subst (λ es. TreesEach part trees es t) (sym (so_far.split ∙ ap (λ es. so_far.done ++ es) none ∙ append-nil so_far.done))) so_far.told

  -- the next item is cut short
  pub up_to_partly : {all rest left : List (K × A)} {e : K × A} {before mid after : Trace} {old between new : List Entry} → ((x : A) → HasTree (trees x)) → WalkedUpTo part trees text all rest before mid old between → rest ≡ e ∷ left → WalkedPartly (TreesUnder (part e.0) (trees e.1)) text mid after between new → WalkedPartly (TreesEach part trees all) text before after old new
  up_to_partly {left = left} {e} has so_far step more =
      partly_as (λ t v. subst (λ es. TreesEach part trees es t) (sym (so_far.split ∙ ap (λ es. so_far.done ++ es) step)) (each_append part trees so_far.done (e ∷ left) t v))
      (second_partly so_far.told (first_partly more (each_has_tree part has left)))
