use Rattle.sqlite.specs.Held.{state}
use Rattle.example_table.proofs.Doing.{creates_if, fails_if}
use Rattle.example_table.proofs.statements.create.Goals as goal

pub returns-clause-made : goal.returns-clause-made
returns-clause-made g c up = creates_if (state g.S.Store c.args.conn.now) (state g.S.Store c.execute.new.self) c.execute.result c.requires.empty c.requires.outside (c.execute.ensures.runs up.0)

pub returns-clause-err : goal.returns-clause-err
returns-clause-err g c = fails_if (state g.S.Store c.args.conn.now) (state g.S.Store c.execute.new.self) c.execute.result c.execute.ensures.survives c.execute.ensures.runs
