-- The visits of a value, and how they are put together from smaller ones.
use Rattle.std.specs.Prelude.{◌≡◌, ⊤, ℕ, Bool, true, false, List, length, Option, None, IfSome, IsSomeAnd, ◌⊎◌, Result, OnOk, OnErr, refl}
use Rattle.std.specs.List.{All, Any}
use Rattle.garde_i18n.specs.Datum.{Datum}
use Rattle.garde_report.specs.Part.{Part, index_part, unnamed_part}
use Rattle.garde_report.specs.Report.{Entry}
use Rattle.garde_report.specs.Trace.{Trace}
use Rattle.garde_rules.specs.{Fault}
use Rattle.garde.specs.Tree.{Tree, nothing, bears, found_tree}
use Rattle.garde.specs.Trees.{HasTree, Alike, TreesUnder, TreesBoth, TreesEach, TreesItems, TreesOption, TreesInAnyOrder}
use Rattle.garde.specs.Laws.{one_alike, found_alike, both_have_tree, both_alike, under_has_tree, under_alike, each_has_tree, each_alike, items_have_tree, items_alike, any_order_has_tree, any_order_alike, option_has_tree, option_alike}
use Rattle.garde.specs.Walk.{Walked, WalkedPartly, MayRefuse}

-- The trees that the value may have, what is known of it where they have no fault, and whether a walk may allocate then; with the
-- two laws: there is a tree, and one is without a fault exactly if that is known of the value.
pub record Visits : Type 1 where
  pub trees : Tree → Type 0
  pub known : Type 0
  pub allocates : Type 0
  pub has_tree : HasTree trees
  pub alike : Alike trees known

-- one tree, whose walk allocates only for its faults
unfoldable pub only : Tree → Visits
only t = record { trees = λ s. s ≡ t; known = bears t ≡ false; allocates = ⊥; has_tree = (t, refl); alike = one_alike t }

-- nothing at all
unfoldable pub none : Visits
none = only nothing

-- what a rule finds
unfoldable pub found : Option Fault → Visits
found fault = record {
  trees = λ s. s ≡ found_tree fault;
  known = fault ≡ None;
  allocates = ⊥;
  has_tree = (found_tree fault, refl);
  alike = found_alike fault;
}

-- the same, but a walk may allocate although there is no fault
unfoldable pub may_allocate : Visits → Visits
may_allocate a = record { trees = a.trees; known = a.known; allocates = ⊤; has_tree = a.has_tree; alike = a.alike }

-- the one, and then the other
infixr 20 ◌and◌
unfoldable pub ◌and◌ : Visits → Visits → Visits
a and b = record {
  trees = TreesBoth a.trees b.trees;
  known = a.known × b.known;
  allocates = a.allocates ⊎ b.allocates;
  has_tree = both_have_tree a.has_tree b.has_tree;
  alike = both_alike a.alike b.alike;
}

-- under a component
unfoldable pub under : Part → Visits → Visits
under k a = record {
  trees = TreesUnder k a.trees;
  known = a.known;
  allocates = a.allocates;
  has_tree = under_has_tree k a.has_tree;
  alike = under_alike k a.alike;
}

-- an item, under its index
abbrev pub item : ℕ → Visits → Visits
item index a = under (index_part index) a

-- each item in turn, under its index
unfoldable pub items : {A : Type 0} → (A → Visits) → List A → Visits
items each xs = record {
  trees = TreesItems (λ x. (each x).trees) xs;
  known = All (λ x. (each x).known) xs;
  allocates = Any (λ x. (each x).allocates) xs;
  has_tree = items_have_tree (λ x. (each x).has_tree) xs;
  alike = items_alike (λ x. (each x).alike) xs;
}

-- each value in turn, under the component of its key
unfoldable pub entries : {K A : Type 0} → (K → Part) → (A → Visits) → List (K × A) → Visits
entries part each es = record {
  trees = TreesEach part (λ x. (each x).trees) es;
  known = All (λ e. (each e.1).known) es;
  allocates = Any (λ e. (each e.1).allocates) es;
  has_tree = each_has_tree part (λ x. (each x).has_tree) es;
  alike = each_alike part (λ x. (each x).alike) es;
}

-- each item once in some order, under its index in that order
unfoldable pub items_in_any_order : {A : Type 0} → (A → Visits) → List A → Visits
items_in_any_order each xs = record {
  trees = TreesInAnyOrder (TreesItems (λ x. (each x).trees)) xs;
  known = All (λ x. (each x).known) xs;
  allocates = Any (λ x. (each x).allocates) xs;
  has_tree = any_order_has_tree (items_have_tree (λ x. (each x).has_tree)) xs;
  alike = any_order_alike (λ x. (each x).known) (items_alike (λ x. (each x).alike)) xs;
}

-- each value once in some order, under the component of its key
unfoldable pub entries_in_any_order : {K A : Type 0} → (K → Part) → (A → Visits) → List (K × A) → Visits
entries_in_any_order part each es = record {
  trees = TreesInAnyOrder (TreesEach part (λ x. (each x).trees)) es;
  known = All (λ e. (each e.1).known) es;
  allocates = Any (λ e. (each e.1).allocates) es;
  has_tree = any_order_has_tree (each_has_tree part (λ x. (each x).has_tree)) es;
  alike = any_order_alike (λ e. (each e.1).known) (each_alike part (λ x. (each x).alike)) es;
}

-- what an option holds, with no component of its own
unfoldable pub optional : {A : Type 0} → (A → Visits) → Option A → Visits
optional each v = record {
  trees = TreesOption (λ x. (each x).trees) v;
  known = IfSome v (λ x. (each x).known);
  allocates = IsSomeAnd v (λ x. (each x).allocates);
  has_tree = option_has_tree (λ x. (each x).has_tree) v;
  alike = option_alike (λ x. (each x).alike) v;
}

-- the same, under the component without a name
abbrev pub each_of_option : {A : Type 0} → (A → Visits) → Option A → Visits
each_of_option each v = optional (λ x. under unnamed_part (each x)) v

-- the same where the condition holds, and else nothing
unfoldable pub when : Bool → Visits → Visits
when true a = a
when false a = none

-- What is known of a value whose trees have no fault. Where this word is unfolded, what is known is that each rule found nothing:
-- of both sides of `and`, under a component, of each item and each value, of what an option holds, and where the condition holds.
unfoldable pub Known : Visits → Type 0
unfolding only none found may_allocate ◌and◌ under items entries items_in_any_order entries_in_any_order optional when
Known visits = visits.known

-- What a visit leaves and returns. When it returns Ok, all of one tree was walked. When it returns `Err`, memory ran out: a
-- beginning of one tree was walked, and there is a reason for it.
pub record Visited {E : Type 0} (visits : Visits) (text : Datum → List ℕ) (before after : Trace) (old new : List Entry) (result : Result Unit E) : Type 0 where
  pub ok : OnOk result (Walked visits.trees text before after old new)
  pub err : OnErr result (WalkedPartly visits.trees text before after old new)
  pub why : OnErr result (MayRefuse visits.trees visits.allocates (length before.components))
