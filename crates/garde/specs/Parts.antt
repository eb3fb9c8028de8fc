-- A list that is checked in parts: its trees and its report are those of the parts, one after the other.
use Rattle.std.specs.Prelude.{◌≡◌, ℕ, ◌+◌, ◌||◌, List, [], ◌∷◌, ◌++◌, length, ◌↔◌}
use Rattle.std.specs.List.{enumerate_from, flat_map}
use Rattle.garde_i18n.specs.Datum.{Datum}
use Rattle.garde_report.specs.Part.{Part, index_part}
use Rattle.garde_report.specs.Report.{Entry}
use Rattle.garde.specs.Tree.{Tree, nothing, under, ◌then◌, bears, flat, nodes}
use Rattle.garde.specs.Trees.{TreesNothing, TreesBoth, TreesEach, TreesItems}

-- each item in turn, under its index, where the first item has this one
abbrev pub TreesItemsFrom : {A : Type 0} → ℕ → (A → Tree → Type 0) → List A → Tree → Type 0
TreesItemsFrom first trees xs = TreesEach index_part trees (enumerate_from first xs)

-- the items of each part in turn, under their indexes in the whole list, where the first item has this one
abbrev pub TreesParts : {A : Type 0} → ℕ → (A → Tree → Type 0) → List (List A) → Tree → Type 0
TreesParts first trees [] = TreesNothing
TreesParts first trees (xs ∷ parts) = TreesBoth (TreesItemsFrom first trees xs) (TreesParts (first + length xs) trees parts)

-- these trees of items one after another, each under its index, where the first has this one
abbrev pub numbered : ℕ → List Tree → Tree
numbered first [] = nothing
numbered first (t ∷ ts) = under (index_part first) t (numbered (first + 1) ts)

-- The second tree is the first with each index moved by n: both hold the same trees of items, the one under the indexes from 0, the
-- other under those from n.
abbrev pub IsMovedTree : ℕ → Tree → Tree → Type 0
IsMovedTree n t u = (ts : List Tree) × (t ≡ numbered 0 ts) × (u ≡ numbered n ts)

-- the second entries are the first, each with the index at the front of its path moved by n
abbrev pub AreMoved : ℕ → List Entry → List Entry → Type 0
AreMoved n [] moved = moved ≡ []
AreMoved n (e ∷ es) moved =
    (index : ℕ) × (path : List Part) × (rest : List Entry)
    × (e.0 ≡ index_part index ∷ path) × (moved ≡ (index_part (n + index) ∷ path, e.1) ∷ rest) × AreMoved n es rest

-- A tree of a list by a tree of its first n items and one of the others, as a list of their own: its report is the first report, and
-- then the second with each index moved by n. Nodes add up, and there is a fault where one of the two has one.
pub record IsJoined (n : ℕ) (first second whole : Tree) : Type 0 where
  pub report : (text : Datum → List ℕ) →
      (moved : List Entry) × AreMoved n (flat text [] second) moved × (flat text [] whole ≡ flat text [] first ++ moved)
  pub nodes_of : nodes whole ≡ nodes first + nodes second
  pub bears_of : bears whole ≡ (bears first || bears second)

-- How the trees of a whole list are made of those of its parts. The trees of an item may be several.
pub record ItemsInParts {A : Type 0} (trees : A → Tree → Type 0) : Type 0 where
  -- each tree of the whole is joined of a tree of each of two parts, and each two such trees are joined to one of the whole
  pub cut : (xs ys : List A) (t : Tree) → TreesItems trees (xs ++ ys) t
      → (a b : Tree) × TreesItems trees xs a × TreesItems trees ys b × IsJoined (length xs) a b t
  pub joined : (xs ys : List A) (a b : Tree) → TreesItems trees xs a → TreesItems trees ys b
      → (t : Tree) × TreesItems trees (xs ++ ys) t × IsJoined (length xs) a b t
  -- the same with the second part under its indexes in the whole: a tree of the first and then one of the second
  pub two : (xs ys : List A) (t : Tree) →
      TreesItems trees (xs ++ ys) t ↔ TreesBoth (TreesItems trees xs) (TreesItemsFrom (length xs) trees ys) t
  -- of any number of parts
  pub any : (parts : List (List A)) (t : Tree) → TreesItems trees (flat_map (λ part. part) parts) t ↔ TreesParts 0 trees parts t
  -- a tree of a part is a tree of the list that the part is by itself, with each index moved, and the reverse
  pub moved : (n : ℕ) (xs : List A) (u : Tree) →
      TreesItemsFrom n trees xs u ↔ ((t : Tree) × TreesItems trees xs t × IsMovedTree n t u)

-- What is read and counted of one tree and then another, and of a tree with its indexes moved.
pub record ReadInParts : Type 0 where
  -- the report is that of the first, and then that of the second
  pub report : (text : Datum → List ℕ) (p : List Part) (a b : Tree) → flat text p (a then b) ≡ flat text p a ++ flat text p b
  -- nodes add up, and there is a fault where one of the two has one
  pub nodes_of : (a b : Tree) → nodes (a then b) ≡ nodes a + nodes b
  pub bears_of : (a b : Tree) → bears (a then b) ≡ (bears a || bears b)
  -- where the indexes of a tree are moved, so are those of its report, and nothing else changes
  pub moved_report : (text : Datum → List ℕ) (n : ℕ) (t u : Tree) → IsMovedTree n t u → AreMoved n (flat text [] t) (flat text [] u)
  pub moved_nodes : (n : ℕ) (t u : Tree) → IsMovedTree n t u → nodes u ≡ nodes t
  pub moved_bears : (n : ℕ) (t u : Tree) → IsMovedTree n t u → bears u ≡ bears t
