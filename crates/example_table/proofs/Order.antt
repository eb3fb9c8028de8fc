-- A row under the next rowid comes behind the others.
use Rattle.std.proofs.Common.{◌≡◌, ◌∙◌, ap, refl, ℤ, pos, ◌+ℤ◌, ◌<ℤ◌, fold, List, [], ◌∷◌, ◌++◌, Less, int_cmp, IsTrue, arith}
use Rattle.std.proofs.lemmas.Bool.Decides.{nat_tests}
use Rattle.std.proofs.lemmas.Int.{ints}
use Rattle.std.specs.List.{AllByRecursion}
use Rattle.sqlite.specs.declared.types.Value.TheVariants.{Int}
use Rattle.sqlite.specs.Edit.{id_in, next_rowid}
use Rattle.sqlite.specs.Order.{Row, value_cmp}
use Rattle.sqlite.specs.Tree.{IsTable, rowid, put_row}
use Rattle.sqlite.specs.View.{is_int}
use Rattle.sqlite_rules.proofs.TableLemmas.{int_is}
use Rattle.sqlite_trees.proofs.TreeLemmas.{IsTable-put_row, all-put_row}
use Rattle.sqlite_value.proofs.OrderLemmas.{value_cmp-Int}
use Rattle.example_table.specs.Stock.{Ordered}

lower_than : (a b c : ℤ) → int_cmp a b ≡ Less → b <ℤ c → a <ℤ c
lower_than a b c p q = grind (arith, ints, nat_tests)

abbrev step_rowid : ℤ → Row → ℤ
step_rowid n r = id_in (rowid r) +ℤ pos 1

below_next : (x : Row) (rows : List Row) → IsTable (x ∷ rows) → AllByRecursion (λ r. IsTrue (is_int (rowid r))) (x ∷ rows)
    → AllByRecursion (λ r. id_in (rowid r) <ℤ fold step_rowid (step_rowid (pos 1) x) rows) (x ∷ rows)
below_next x [] up keyed = (omega (arith, ints), tt)
below_next x (y ∷ rows) up keyed =
    let later = below_next y rows up.1 keyed.1 in
    let lower = rw (int_is (rowid x) keyed.0, int_is (rowid y) keyed.1.0, value_cmp-Int (id_in (rowid x)) (id_in (rowid y))) at up.0.0 in
    let first = later.0 in
    (lower_than (id_in (rowid x)) (id_in (rowid y)) _ lower first, later)

below_is : (r : Row) (n : ℤ) → IsTrue (is_int (rowid r)) → id_in (rowid r) <ℤ n → value_cmp (rowid r) (Int n) ≡ Less
below_is r n keyed below = ap (λ v. value_cmp v (Int n)) (int_is (rowid r) keyed) ∙ value_cmp-Int (id_in (rowid r)) n ∙ grind (arith, ints, nat_tests)

put_last : (n : ℤ) (rest : Row) (rows : List Row) → AllByRecursion (λ r. IsTrue (is_int (rowid r))) rows → AllByRecursion (λ r. id_in (rowid r) <ℤ n) rows → put_row (Int n ∷ rest) rows ≡ rows ++ (Int n ∷ rest) ∷ []
put_last n rest [] keyed below = refl
put_last n rest (r ∷ rows) keyed below = rw (below_is r n keyed.0 below.0) (ap (λ more. r ∷ more) (put_last n rest rows keyed.1 below.1))

pub behind : (rows : List Row) (rest : Row) → Ordered rows → put_row (Int (next_rowid rows) ∷ rest) rows ≡ rows ++ (Int (next_rowid rows) ∷ rest) ∷ []
behind [] rest ordered = refl
behind (x ∷ rows) rest ordered = put_last (next_rowid (x ∷ rows)) rest (x ∷ rows) ordered.1 (below_next x rows ordered.0 ordered.1)

pub still_ordered : (rows : List Row) (rest : Row) → Ordered rows → Ordered (put_row (Int (next_rowid rows) ∷ rest) rows)
still_ordered rows rest ordered = (
  IsTable-put_row (Int (next_rowid rows) ∷ rest) rows ordered.0,
  all-put_row (λ r. IsTrue (is_int (rowid r))) (Int (next_rowid rows) ∷ rest) rows refl ordered.1,
)
