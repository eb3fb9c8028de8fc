use Rattle.std.proofs.Common.{arith}
use Rattle.std.specs.String.{string_bytes}
use Rattle.sqlite.specs.Held.{state}
use Rattle.sqlite.specs.Values.{bound}
use Rattle.example_import.specs.Line.{page_bytes}
use Rattle.example_table.proofs.Failing.{execute_open, execute_fails}
use Rattle.example_table.proofs.Doing.{insert_text, adds_if}
use Rattle.example_table.proofs.statements.put.Goals as goal

pub returns-clause-up : goal.returns-clause-up
returns-clause-up g c up = (
  omega (arith, up.0, c.execute.ensures.survives.clean),
  execute_open (state g.S.Store c.args.conn.now) (state g.S.Store c.execute.new.self) insert_text (bound c.values.result) c.execute.result up.1 (c.execute.ensures.runs up.0),
)

pub returns-clause-schema : goal.returns-clause-schema
returns-clause-schema g c up table =
    (adds_if (state g.S.Store c.args.conn.now) (state g.S.Store c.execute.new.self) (string_bytes c.args.row.now.code) (string_bytes c.args.row.now.name) c.args.row.now.quantity c.args.row.now.price (page_bytes c.args.row.now.page) c.execute.result table
    (rw c.values.ensures at (c.execute.ensures.runs up.0))).0

pub returns-clause-rows : goal.returns-clause-rows
returns-clause-rows g c up table =
    (adds_if (state g.S.Store c.args.conn.now) (state g.S.Store c.execute.new.self) (string_bytes c.args.row.now.code) (string_bytes c.args.row.now.name) c.args.row.now.quantity c.args.row.now.price (page_bytes c.args.row.now.page) c.execute.result table
    (rw c.values.ensures at (c.execute.ensures.runs up.0))).1

pub returns-clause-kept : goal.returns-clause-kept
returns-clause-kept g c up table inside =
    (adds_if (state g.S.Store c.args.conn.now) (state g.S.Store c.execute.new.self) (string_bytes c.args.row.now.code) (string_bytes c.args.row.now.name) c.args.row.now.quantity c.args.row.now.price (page_bytes c.args.row.now.page) c.execute.result table
    (rw c.values.ensures at (c.execute.ensures.runs up.0))).2 inside

pub returns-clause-err : goal.returns-clause-err
returns-clause-err g c up = execute_fails (state g.S.Store c.args.conn.now) (state g.S.Store c.execute.new.self) insert_text (bound c.values.result) c.execute.result up.1 (c.execute.ensures.runs up.0)
