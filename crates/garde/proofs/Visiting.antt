-- Lemmas on what a visit leaves and returns.
use Rattle.std.proofs.Common.{◌≡◌, Bool, true, false, sym, ℕ, ◌≤◌, List, [], ◌∷◌, length, Option, Result, Ok, Err, OnOk, OnErr, refl, ap, ◌∙◌, inl, inr, length-append}
use Rattle.std.specs.List.{enumerate_from}
use Rattle.std.proofs.lemmas.List.Sorted.{IsPermutation-refl}
use Rattle.std.specs.Result.{IsErr, IsOk}
use Rattle.std.proofs.lemmas.Bool.{false≢true, true≢false}
use Rattle.garde_i18n.specs.Datum.{Datum}
use Rattle.garde_report.specs.Part.{Part, index_part}
use Rattle.garde_report.specs.Report.{Entry}
use Rattle.garde_report.specs.Trace.{Trace, IsTrace, with_component, without_last, IsPut, IsNotPut}
use Rattle.garde_report.specs.declared.error.rule_error.RuleError.{RuleError}
use Rattle.garde_report.specs.declared.error.rule_error.RuleError.TheVariants as errors
use Rattle.garde_rules.specs.{Fault, Applies}
use Rattle.garde_rules.specs.Memory.{AppliesInMemory}
use Rattle.garde.specs.Laws.{Any-numbered, under_has_tree}
use Rattle.garde.specs.Tree.{Tree, found_tree}
use Rattle.garde.specs.Walk.{Walked}
use Rattle.garde.specs.Visits.{Visits, Visited, may_allocate, when, ◌and◌, under, found, only, none, items, entries, items_in_any_order, entries_in_any_order}
use Rattle.garde.proofs.Walks.{silent_partly, nothing_walked, under_walked, under_partly, rule_walked, rule_partly, rule_bears, both_walked, first_partly, second_partly, walked_as, partly_as, WalkedUpTo, up_to_partly, up_to_all}
use Rattle.garde.proofs.Refusals.{refuses_under, refuses_under_full, refuses_first, refuses_second, refuses_as, depth_kept, refuses_next}

module _ {text : Datum → List ℕ} {E : Type 0} where
  -- the first is done, and this is what the second does
  pub visited_then : (a b : Visits) {before mid after : Trace} {old between new : List Entry} {first result : Result Unit E} → Visited a text before mid old between first → IsOk first → Visited b text mid after between new result → Visited (a and b) text before after old new result
  unfolding ◌and◌
  visited_then a b {first = Err e} one is two = absurd (false≢true is)
  visited_then a b {first = Ok x} {result = Ok y} one is two = record { ok = both_walked one.ok two.ok; err = tt; why = tt }
  visited_then a b {before = before} {first = Ok x} {result = Err e} one is two = record {
    ok = tt;
    err = second_partly one.ok two.err;
    why = refuses_second (length before.components) a.has_tree (rw (depth_kept one.ok) at two.why);
  }

  -- the first failed
  pub visited_stop : (a b : Visits) {before after : Trace} {old new : List Entry} {first result : Result Unit E} → Visited a text before after old new first → IsErr first → IsErr result → Visited (a and b) text before after old new result
  unfolding ◌and◌
  visited_stop a b {first = Ok x} one was is = absurd (false≢true was)
  visited_stop a b {first = Err e} {result = Ok x} one was is = absurd (false≢true is)
  visited_stop a b {before = before} {first = Err e} {result = Err f} one was is = record { ok = tt; err = first_partly one.err b.has_tree; why = refuses_first (length before.components) one.why b.has_tree }

  pub visited_under : (k : Part) (a : Visits) {before inner mid after : Trace} {old new : List Entry} {result : Result Unit E} → IsTrace before → inner ≡ with_component before k → Visited a text inner mid old new result → after ≡ without_last mid → Visited (under k a) text before after old new result
  unfolding under
  visited_under k a {result = Ok x} sound push told pop = record { ok = under_walked k sound push told.ok pop; err = tt; why = tt }
  visited_under k a {before = before} {result = Err e} sound push told pop = record {
    ok = tt;
    err = under_partly k sound push told.err pop;
    why = refuses_under k _ _ (ap (λ w. length w.components) push ∙ length-append before.components (k ∷ [])) told.why;
  }

  -- no component more goes onto the trail
  pub visited_full : (k : Part) (a : Visits) {before after : Trace} {old new : List Entry} {result : Result Unit E} → new ≡ old → after ≡ before → 8 ≤ length before.components → IsErr result → Visited (under k a) text before after old new result
  unfolding under
  visited_full k a {result = Ok x} same still full is = absurd (false≢true is)
  visited_full k a {before = before} {result = Err f} same still full is = record { ok = tt; err = silent_partly (under_has_tree k a.has_tree) same still; why = refuses_under_full k (length before.components) a.has_tree full }

  -- that a value allocates is a reason of its own
  may_allocate_more : {a : Visits} {before after : Trace} {old new : List Entry} {result : Result Unit E} → Visited a text before after old new result → Visited (may_allocate a) text before after old new result
  unfolding may_allocate
  may_allocate_more {result = Ok x} told = record { ok = told.ok; err = tt; why = tt }
  may_allocate_more {result = Err e} told = record { ok = tt; err = told.err; why = inl tt }

  -- a rule's result was put
  pub visited_found : (fault : Option Fault) {before after : Trace} {old new : List Entry} (outcome : Result Unit RuleError) {result : Result Unit E} → IsTrace before → Applies fault text outcome → OnOk result (IsPut outcome before after old new) → OnErr result (IsNotPut outcome before after old) → OnErr result (new ≡ old) → Visited (found fault) text before after old new result
  unfolding found
  visited_found fault outcome {result = Ok x} sound applies put refused same = record { ok = rule_walked fault outcome sound applies put; err = tt; why = tt }
  visited_found fault {before} {after} {old} outcome {result = Err e} sound applies put refused same = record {
    ok = tt;
    err = rule_partly fault outcome applies refused same;
    why = inr (found_tree fault, refl, inl (rule_bears text before after old fault outcome applies refused));
  }

  -- a rule's result was put that may run out of memory though it finds nothing
  pub visited_may_allocate : (fault : Option Fault) {before after : Trace} {old new : List Entry} (outcome : Result Unit RuleError) {result : Result Unit E} → IsTrace before → AppliesInMemory fault text outcome → OnOk result (IsPut outcome before after old new) → OnErr result (IsNotPut outcome before after old) → OnErr result (new ≡ old) → Visited (may_allocate (found fault)) text before after old new result
  unfolding found may_allocate
  visited_may_allocate fault (Ok x) sound applies put refused same = may_allocate_more (visited_found fault (Ok x) sound applies put refused same)
  visited_may_allocate fault (Err (errors.Fault m)) sound applies put refused same = may_allocate_more (visited_found fault (Err (errors.Fault m)) sound applies put refused same)
  visited_may_allocate fault (Err errors.Memory) {result = Ok x} sound applies put refused same = absurd put
  visited_may_allocate fault (Err errors.Memory) {result = Err e} sound applies put refused same = record { ok = tt; err = silent_partly (found_tree fault, refl) same refused; why = inl tt }

  -- ---- items

  pub is_walked : {a : Visits} {before after : Trace} {old new : List Entry} {result : Result Unit E} → Visited a text before after old new result → IsOk result → Walked a.trees text before after old new
  is_walked {result = Ok x} told is = told.ok
  is_walked {result = Err e} told is = absurd (false≢true is)

  -- the visits may be stated in another way
  pub visited_as : {a b : Visits} {before after : Trace} {old new : List Entry} {result : Result Unit E} → ((t : Tree) → a.trees t → b.trees t) → (a.allocates → b.allocates) → Visited a text before after old new result → Visited b text before after old new result
  visited_as {result = Ok x} same more told = record { ok = walked_as same told.ok; err = tt; why = tt }
  visited_as {before = before} {result = Err e} same more told = record { ok = tt; err = partly_as same told.err; why = refuses_as (length before.components) same more told.why }

  -- the next of the entries failed
  pub visited_entry : {K A : Type 0} (part : K → Part) (each : A → Visits) {all rest left : List (K × A)} {e : K × A} {before mid after : Trace} {old between new : List Entry} {first result : Result Unit E} → WalkedUpTo part (λ x. (each x).trees) text all rest before mid old between → rest ≡ e ∷ left → Visited (under (part e.0) (each e.1)) text mid after between new first → IsErr first → IsErr result → Visited (entries part each all) text before after old new result
  unfolding entries under
  visited_entry part each {first = Ok x} so_far step one was is = absurd (false≢true was)
  visited_entry part each {first = Err e} {result = Ok x} so_far step one was is = absurd (false≢true is)
  visited_entry part each {before = before} {first = Err e} {result = Err f} so_far step one was is = record {
    ok = tt;
    err = up_to_partly (λ x. (each x).has_tree) so_far step one.err;
    why = refuses_next (λ x. (each x).allocates) (length before.components) (λ x. (each x).has_tree) so_far step (rw (depth_kept so_far.told) at one.why);
  }

  -- all of the entries are done
  pub visited_entries : {K A : Type 0} (part : K → Part) (each : A → Visits) {all rest : List (K × A)} {before after : Trace} {old new : List Entry} → WalkedUpTo part (λ x. (each x).trees) text all rest before after old new → rest ≡ [] → Visited {E = E} (entries part each all) text before after old new (Ok tt)
  unfolding entries
  visited_entries part each so_far none = record { ok = up_to_all so_far none; err = tt; why = tt }

  -- items are entries under their numbers
  pub visited_numbered : {A : Type 0} (each : A → Visits) (xs : List A) {before after : Trace} {old new : List Entry} {result : Result Unit E} → Visited (entries index_part each (enumerate_from 0 xs)) text before after old new result → Visited (items each xs) text before after old new result
  unfolding entries items
  visited_numbered each xs told = visited_as (λ t v. v) (Any-numbered (λ x. (each x).allocates) 0 xs).0 told

  -- the order in which they come is some order
  pub visited_some_items : {A : Type 0} (each : A → Visits) (xs : List A) {before after : Trace} {old new : List Entry} {result : Result Unit E} → Visited (items each xs) text before after old new result → Visited (items_in_any_order each xs) text before after old new result
  unfolding items items_in_any_order
  visited_some_items each xs told = visited_as (λ t v. (xs, IsPermutation-refl xs, v)) (λ h. h) told

  pub visited_some_entries : {K A : Type 0} (part : K → Part) (each : A → Visits) (es : List (K × A)) {before after : Trace} {old new : List Entry} {result : Result Unit E} → Visited (entries part each es) text before after old new result → Visited (entries_in_any_order part each es) text before after old new result
  unfolding entries entries_in_any_order
  visited_some_entries part each es told = visited_as (λ t v. (es, IsPermutation-refl es, v)) (λ h. h) told

  pub visited_none : {walk : Trace} {old : List Entry} → Visited {E = E} none text walk walk old old (Ok tt)
  unfolding none only
  visited_none = record { ok = nothing_walked; err = tt; why = tt }

  -- what is checked under a condition that holds, or does not
  pub visited_when : (condition : Bool) (a : Visits) {before after : Trace} {old new : List Entry} {result : Result Unit E} → condition ≡ true → Visited a text before after old new result → Visited (when condition a) text before after old new result
  unfolding when
  visited_when true a holds told = told
  visited_when false a holds told = absurd (true≢false (sym holds))

  pub visited_unless : (condition : Bool) (a : Visits) {walk : Trace} {old : List Entry} → condition ≡ false → Visited {E = E} (when condition a) text walk walk old old (Ok tt)
  unfolding when
  visited_unless true a fails = absurd (true≢false fails)
  visited_unless false a fails = visited_none
