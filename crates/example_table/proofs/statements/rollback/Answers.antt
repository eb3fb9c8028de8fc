use Rattle.std.proofs.Common.{[], arith}
use Rattle.sqlite.specs.Held.{state}
use Rattle.example_table.proofs.Failing.{execute_open, execute_fails}
use Rattle.example_table.proofs.Doing.{rollback_text, undoes_if}
use Rattle.example_table.proofs.statements.rollback.Goals as goal

pub returns-clause-up : goal.returns-clause-up
returns-clause-up g c up = (
  omega (arith, up.0, c.execute.ensures.survives.clean),
  execute_open (state g.S.Store c.args.conn.now) (state g.S.Store c.execute.new.self) rollback_text [] c.execute.result up.1 (c.execute.ensures.runs up.0),
)

pub returns-clause-ok : goal.returns-clause-ok
returns-clause-ok g c up table = undoes_if (state g.S.Store c.args.conn.now) (state g.S.Store c.execute.new.self) c.execute.result table up.1 (c.execute.ensures.runs up.0)

pub returns-clause-err : goal.returns-clause-err
returns-clause-err g c up = execute_fails (state g.S.Store c.args.conn.now) (state g.S.Store c.execute.new.self) rollback_text [] c.execute.result up.1 (c.execute.ensures.runs up.0)
