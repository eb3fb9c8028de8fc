-- What is known of a value whose trees have no fault.
use Rattle.std.proofs.Common.{ℕ, ◌<◌, subst}
use Rattle.garde.specs.Trees.{NoneBears}
use Rattle.garde.specs.Validated.{IsValid}
use Rattle.garde.specs.Visits.{Visits, Known}
use Rattle.garde.specs.Nest.{recursive_visits, child_visits}
use Rattle.garde.proofs.Nesting.{recursive_visits_is, child_visits_is}

-- it is known exactly where no tree has a fault
pub known_of : (visits : Visits) → NoneBears visits.trees → Known visits
unfolding Known
known_of visits none = let (t, visited) = visits.has_tree in (visits.alike t visited).0 (none t visited)

pub none_bears_of : (visits : Visits) → Known visits → NoneBears visits.trees
unfolding Known
none_bears_of visits known = λ t visited. (visits.alike t visited).1 known

-- where there is one context alone, it is known under that one
pub known_alone : {V : Type 0} (visits : V → Unit {0} → Visits) (value : V) → IsValid visits value → Known (visits value tt)
known_alone visits value (ctx, none, known) = known

-- of a value that holds values of its own type, what its level says is known, and of each value in it what is known of that
module _ {A : Type 0} (level : (A → Visits) → A → Visits) (size : A → ℕ) where
  pub known_level : (v : A) → Known (recursive_visits level size v) → Known (level (child_visits level size v) v)
  known_level v known = subst Known (recursive_visits_is level size v) known

  pub known_within : (v x : A) → size x < size v → Known (child_visits level size v x) → Known (recursive_visits level size x)
  known_within v x smaller known = subst Known (child_visits_is level size v x smaller) known
