-- Why a database is rejected.
use Rattle.std.proofs.Common.{Err, IfErr, Ok, Result}
use Rattle.sqlite.specs.Held.{Held}
use Rattle.sqlite_trees.specs.declared.store.Store.{Ghosts}
use Rattle.example_table.specs.Stock.{IsBound, IsNotMade, IsReady, IsRejected}
use Rattle.example_table.specs.declared.opening.OpenError.{OpenError}
use Rattle.example_table.specs.declared.opening.OpenError.TheVariants.{Bound, OtherTable, Sqlite}

-- a database that does not have the table is rejected for the reason that none is made
pub rejected : {S X : Type 0} (g : Ghosts S) (conn : Held S) → ¬ (IsReady conn.schema) → ¬ (IsBound conn.schema) → (r : Result X OpenError)
    → IfErr r (λ e. IsNotMade g e conn) → IfErr r (λ e. IsRejected g e conn)
rejected g conn ready bound (Ok x) h = tt
rejected g conn ready bound (Err OtherTable) h = (h, ready, bound)
rejected g conn ready bound (Err Bound) h = absurd h
rejected g conn ready bound (Err (Sqlite e)) h = h
