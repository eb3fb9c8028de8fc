-- What holds of the table is a proposition.
use Rattle.std.specs.Prelude.{ℤ, List}
use base.Stored.{Coded-set}
use mathlib.Core.HLevel.{Π_prop, ×_prop}
use Rattle.sqlite.specs.Order.{Row}
use Rattle.sqlite.specs.Schema.{Schema}
use Rattle.sqlite.specs.State.{State}
use Rattle.sqlite_schema.specs.contracts.schema.Schema as schema
use Rattle.sqlite_trees.specs.Props.{IsShaped-prop, rows_set}
use Rattle.sqlite_trees.specs.declared.store.Shape.TheVariants as shapes
use Rattle.example_table.specs.Stock.{Holds, IsFront, IsUp, stock_schema}

Schema-set : IsSet Schema
Schema-set = Coded-set schema.the_row.coded

pub Holds-prop : (s : State) → IsProp (Holds s)
Holds-prop s = Π_prop (λ up. ×_prop (×_prop (Schema-set s.now.schema stock_schema) (Schema-set s.committed.schema stock_schema)) (×_prop (IsShaped-prop shapes.Table (s.now.trees 0)) (IsShaped-prop shapes.Table (s.committed.trees 0))))

pub IsFront-prop : (made : Type 0) (s : State) (page : List Row) (last : ℤ) → IsProp (made → IsUp s → IsFront page last (s.now.trees 0))
IsFront-prop made s page last = Π_prop (λ _. Π_prop (λ _. rows_set page _))
