-- What a walk of a value leaves.
use Rattle.std.specs.Prelude.{◌≡◌, ◌+◌, ◌-◌, ◌<◌, ◌≤◌, ℕ, List, ◌++◌, ◌⊎◌, length, min, max, if◌then◌else◌, IsTrue}
use Rattle.garde_i18n.specs.Datum.{Datum}
use Rattle.garde_report.specs.Report.{Entry}
use Rattle.garde_report.specs.Trace.{Trace, capped_sum}
use Rattle.garde.specs.Tree.{Tree, bears, flat, nodes, first_faults, height}

-- The trail after a walk of a tree. Where the tree has a fault, a node was made for each component that had no path yet, and one
-- for each component of the tree with a fault at or under it; else nothing was made.
abbrev pub trace_after : Trace → Tree → Trace
trace_after before t = if bears t
    then record before {
      front = length before.components;
      nodes = capped_sum before.nodes (length before.components - before.front + nodes t);
    }
    else before

-- All of one tree was walked: the report grew by that tree, read from left to right, up to the limit of the trail and no further,
-- and the trail is the one after it.
pub record Walked (trees : Tree → Type 0) (text : Datum → List ℕ) (before after : Trace) (old new : List Entry) : Type 0 where
  pub tree : Tree
  pub visited : trees tree
  pub report : new ≡ old ++ flat text before.components tree
  pub fits : length new ≤ max (length old) before.most
  pub trail : after ≡ trace_after before tree
  pub front : before.front ≤ after.front

-- how many faults more a report gets by a trail
abbrev pub room : Trace → List Entry → ℕ
room before old = before.most - length old

-- A beginning of one tree was walked: the report grew by a beginning of what the tree gives, up to the limit of the trail and no
-- further, and the components and the limit are those of before. The trail made no more nodes than the faults that were said and the
-- next one take; where the report has no room for the next, no more than those that were said.
pub record WalkedPartly (trees : Tree → Type 0) (text : Datum → List ℕ) (before after : Trace) (old new : List Entry) : Type 0 where
  pub tree : Tree
  pub visited : trees tree
  pub said : List Entry
  pub unsaid : List Entry
  pub cut : flat text before.components tree ≡ said ++ unsaid
  pub report : new ≡ old ++ said
  pub fits : length new ≤ max (length old) before.most
  pub components : after.components ≡ before.components
  pub limit : after.most ≡ before.most
  pub front : before.front ≤ after.front
  pub nodes : before.nodes ≤ after.nodes
  pub most : after.nodes ≤ (trace_after before (first_faults tree (min (length said + 1) (room before old)))).nodes

-- When a walk under so many components may run out of memory: the value allocates although it has no fault, or one of its trees has
-- a fault or is deeper than eight components.
abbrev pub MayRefuse : (Tree → Type 0) → Type 0 → ℕ → Type 0
MayRefuse trees allocates depth = allocates ⊎ ((t : Tree) × trees t × (IsTrue (bears t) ⊎ (8 < depth + height t)))
