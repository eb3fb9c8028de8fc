-- The visits of an expression.
use Rattle.garde.specs.Fields.{◌and◌, between, field, is, item, minus, plus, signed_range, Visits}
use Rattle.example_types.specs.declared.recursive.expr.Expr.{Expr, Num, Neg', Add'}

abbrev pub expr_visits : Expr → Visits
expr_visits (Num n) = field "num" (is (signed_range (between (minus 10) (plus 10)) n))
expr_visits (Neg' p e) = item 0 (expr_visits e)
expr_visits (Add' p a q b) = item 0 (expr_visits a) and item 1 (expr_visits b)
