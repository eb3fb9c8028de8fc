-- Lemmas on what one keyword asks.
use Rattle.std.proofs.Common.{◌≡◌, ℕ, zero, suc, ◌-◌, ◌<◌, List, [], ◌∷◌, Option, Some, None, Result, Ok, Err, Bool, true, false, ◌||◌, ◌&&◌, arith, refl, ap, sym, subst, ◌∙◌}
use Rattle.std.specs.Prelude.{IfOk, IsOkAnd}
use Rattle.std.specs.List.{list_any}
use Rattle.garde_i18n.specs.Datum.{Datum}
use Rattle.garde_report.specs.Part.{Part}
use Rattle.garde_report.specs.Report.{Entry}
use Rattle.garde_report.specs.Trace.{Trace, IsTrace, with_component, without_last}
use Rattle.garde_report.specs.Fault.{IfFault}
use Rattle.garde_report.specs.declared.error.rule_error.RuleError.{RuleError}
use Rattle.garde_report.specs.declared.error.rule_error.RuleError.TheVariants as errors
use Rattle.garde_rules.specs.{Applies}
use Rattle.json.specs.Json.{Json}
use Rattle.garde.specs.Fields.{own}
use Rattle.garde.specs.Visits.{Visits, Visited, none, under}
use Rattle.garde.proofs.Author.{visited_none, visited_under}
use Rattle.garde_described.specs.Faults.{asks}
use Rattle.garde_described.specs.Keywords.{items_same, listed, lists_same, membered, objects_same, of, same, scalars_same}

-- the answer of a rule whose fault has a text of its own
pub own_applies : {C E : Type 0} (bytes : C → List ℕ) (message : List ℕ) (text : Datum → List ℕ) (r : Result C E) (e : RuleError) → IfFault e (λ m. IsOkAnd r (λ t. m ≡ bytes t)) → IfOk r (λ s. bytes s ≡ message) → Applies (Some (own message)) text (Err e)
own_applies bytes message text (Ok t) (errors.Fault m) says is = says ∙ is
own_applies bytes message text (Err x) (errors.Fault m) says is = absurd says
own_applies bytes message text r errors.Memory says is = refl

-- one of a list was found
pub any_found : {A : Type 0} (p : A → Bool) (left : List A) (x : A) (xs : List A) → left ≡ x ∷ xs → p x ≡ true → list_any p left ≡ true
any_found p left x xs step is = ap (list_any p) step ∙ ap (λ b. b || list_any p xs) is

pub any_next : {A : Type 0} (p : A → Bool) (left : List A) (x : A) (xs : List A) → left ≡ x ∷ xs → p x ≡ false → list_any p left ≡ list_any p xs
any_next p left x xs step is = ap (list_any p) step ∙ ap (λ b. b || list_any p xs) is

pub any_end : {A : Type 0} (p : A → Bool) (left : List A) → left ≡ [] → list_any p left ≡ false
any_end p left end = ap (list_any p) end

-- whether two values are the same, of no level and of one more
pub same_zero : (n : ℕ) (a b : Json) → n ≡ 0 → same n a b ≡ false
unfolding same
same_zero n a b none = ap (λ m. same m a b) none

abbrev level_same : ℕ → Json → Json → Bool
level_same n a b = scalars_same a b || (lists_same (same n) (listed a) (listed b) || objects_same (same n) b (membered a) (membered b))

pub same_next : (n : ℕ) (a b : Json) → 0 < n → same n a b ≡ (scalars_same a b || (lists_same (same (n - 1)) (listed a) (listed b) || objects_same (same (n - 1)) b (membered a) (membered b)))
unfolding same
same_next zero a b some = absurd (omega (arith, some))
same_next (suc n) a b some = let one : suc n - 1 ≡ n = omega arith in ap (λ m. level_same m a b) (sym one)

-- the items of two lists
pub items_next : (each : Json → Json → Bool) (js ks : List Json) (j k : Json) (ms ns : List Json) → js ≡ j ∷ ms → ks ≡ k ∷ ns → each j k ≡ true → items_same each js ks ≡ items_same each ms ns
unfolding items_same
items_next each js ks j k ms ns one other is = ap (λ l. items_same each l ks) one ∙ ap (λ l. items_same each (j ∷ ms) l) other ∙ ap (λ b. b && items_same each ms ns) is

pub items_other : (each : Json → Json → Bool) (js ks : List Json) (j k : Json) (ms ns : List Json) → js ≡ j ∷ ms → ks ≡ k ∷ ns → each j k ≡ false → items_same each js ks ≡ false
unfolding items_same
items_other each js ks j k ms ns one other is = ap (λ l. items_same each l ks) one ∙ ap (λ l. items_same each (j ∷ ms) l) other ∙ ap (λ b. b && items_same each ms ns) is

pub items_fewer : (each : Json → Json → Bool) (js ks : List Json) (j : Json) (ms : List Json) → js ≡ j ∷ ms → ks ≡ [] → items_same each js ks ≡ false
unfolding items_same
items_fewer each js ks j ms one none = ap (λ l. items_same each l ks) one ∙ ap (λ l. items_same each (j ∷ ms) l) none

pub items_more : (each : Json → Json → Bool) (js ks : List Json) (k : Json) (ns : List Json) → js ≡ [] → ks ≡ k ∷ ns → items_same each js ks ≡ false
unfolding items_same
items_more each js ks k ns none other = ap (λ l. items_same each l ks) none ∙ ap (λ l. items_same each [] l) other

pub items_end : (each : Json → Json → Bool) (js ks : List Json) → js ≡ [] → ks ≡ [] → items_same each js ks ≡ true
unfolding items_same
items_end each js ks none nothing = ap (λ l. items_same each l ks) none ∙ ap (λ l. items_same each [] l) nothing

module _ {text : Datum → List ℕ} {E : Type 0} where
  -- what is told of the same visits
  pub told_as : {a b : Visits} {before after : Trace} {old new : List Entry} {result : Result Unit E} → a ≡ b → Visited a text before after old new result → Visited b text before after old new result
  told_as {before = before} {after} {old} {new} {result} same told = subst (λ z. Visited z text before after old new result) same told

  -- what is told under a component
  pub told_under : (k : Part) {p : Part} (a : Visits) {before inner mid after : Trace} {old new : List Entry} {result : Result Unit E} → p ≡ k → IsTrace before → inner ≡ with_component before p → Visited a text inner mid old new result → after ≡ without_last mid → Visited (under k a) text before after old new result
  told_under k {p} a {before} {inner} {mid} {after} {old} {new} {result} is sound push told pop = subst (λ z. Visited (under z a) text before after old new result) is (visited_under p a sound push told pop)

  -- nothing is asked where there is nothing
  pub of_none : {A : Type 0} (asks : A → Visits) (o : Option A) {walk : Trace} {old : List Entry} → o ≡ None → Visited {E = E} (of asks o) text walk walk old old (Ok tt)
  of_none asks o {walk} {old} none = subst (λ z. Visited {E = E} (of asks z) text walk walk old old (Ok tt)) (sym none) visited_none

  pub of_some : {A : Type 0} (asks : A → Visits) (o : Option A) (x : A) {before after : Trace} {old new : List Entry} {result : Result Unit E} → o ≡ Some x → Visited (asks x) text before after old new result → Visited (of asks o) text before after old new result
  of_some asks o x {before} {after} {old} {new} {result} some told = subst (λ z. Visited (of asks z) text before after old new result) (sym some) told
