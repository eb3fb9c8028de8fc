use Rattle.std.proofs.Common.{rules}
use Rattle.sqlite.specs.Held.{state}
use Rattle.example_table.specs.Stock.{IsFree}
use Rattle.example_table.proofs.database.Stock.make.Goals as goal

pub returns-in-Err-clause-refused : goal.returns-in-Err-clause-refused
returns-in-Err-clause-refused g c =
    let free : IsFree (state g.S.Store c.args.conn) = search rules in
    (free, (c.create.new.conn, c.in-Err.ensures.err))
