-- Which trees a value may have, as a relation, since a hashed collection has several.
use Rattle.std.specs.Prelude.{◌≡◌, false, List, [], ◌∷◌, Option, Some, None, ◌↔◌}
use Rattle.std.specs.List.{enumerate_from}
use Rattle.std.specs.List.Sorted.{IsPermutation}
use Rattle.garde_report.specs.Part.{Part, index_part}
use Rattle.garde.specs.Tree.{Tree, nothing, under, ◌then◌, bears}

-- there is a tree
abbrev pub HasTree : (Tree → Type 0) → Type 0
HasTree trees = (t : Tree) × trees t

-- a tree is without a fault exactly if this is known of the value: all of them are, or none is
abbrev pub Alike : (Tree → Type 0) → Type 0 → Type 0
Alike trees known = (t : Tree) → trees t → (bears t ≡ false) ↔ known

-- no tree has a fault
abbrev pub NoneBears : (Tree → Type 0) → Type 0
NoneBears trees = (t : Tree) → trees t → bears t ≡ false

-- the empty tree alone
abbrev pub TreesNothing : Tree → Type 0
TreesNothing t = t ≡ nothing

-- a component, and under it a tree of what stands there
abbrev pub TreesUnder : Part → (Tree → Type 0) → Tree → Type 0
TreesUnder k trees t = (s : Tree) × trees s × (t ≡ under k s nothing)

-- a tree of the one, and then a tree of the other
abbrev pub TreesBoth : (Tree → Type 0) → (Tree → Type 0) → Tree → Type 0
TreesBoth first second t = (a b : Tree) × first a × second b × (t ≡ a then b)

-- each value in turn, under its component
abbrev pub TreesEach : {K A : Type 0} → (K → Part) → (A → Tree → Type 0) → List (K × A) → Tree → Type 0
TreesEach part trees [] = TreesNothing
TreesEach part trees (e ∷ es) = TreesBoth (TreesUnder (part e.0) (trees e.1)) (TreesEach part trees es)

-- each item in turn, under its index
abbrev pub TreesItems : {A : Type 0} → (A → Tree → Type 0) → List A → Tree → Type 0
TreesItems trees xs = TreesEach index_part trees (enumerate_from 0 xs)

-- the trees of what an option holds, and the empty tree where it is none
abbrev pub TreesOption : {A : Type 0} → (A → Tree → Type 0) → Option A → Tree → Type 0
TreesOption trees None = TreesNothing
TreesOption trees (Some x) = trees x

-- the trees of the items in some order
abbrev pub TreesInAnyOrder : {A : Type 0} → (List A → Tree → Type 0) → List A → Tree → Type 0
TreesInAnyOrder trees xs t = (ys : List _) × IsPermutation xs ys × trees ys t
