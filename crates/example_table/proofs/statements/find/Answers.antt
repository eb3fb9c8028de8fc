use Rattle.std.proofs.Common.{[], ◌∷◌, ◌∙◌, ◌==◌, ap, arith, not, sym, subst}
use Rattle.sqlite.specs.declared.types.Value.TheVariants.{Text}
use Rattle.sqlite.specs.Held.{state}
use Rattle.example_import.specs.Import.{Tells}
use Rattle.example_table.specs.Stock.{lines_in}
use Rattle.example_table.proofs.Failing.{query_open, query_failed}
use Rattle.example_table.proofs.Finding.{select_text, finds, found_stays}
use Rattle.example_table.proofs.statements.find.Goals as goal

pub returns-in-Ok-clause-up : goal.returns-in-Ok-clause-up
returns-in-Ok-clause-up g c up = (
  omega (arith, up.0, c.in-Ok.ensures.survives.clean),
  query_open (state g.S.Store c.args.conn.now) (state g.S.Store c.query_all.new.self) select_text (Text c.args.code.now ∷ []) c.in-Ok.found.items (rw c.to_sql.ensures at (c.in-Ok.ensures.ok up.0)),
)

pub returns-in-Ok-clause-found : goal.returns-in-Ok-clause-found
returns-in-Ok-clause-found g c up table =
    subst (λ b. Tells c.args.code.now (lines_in ((state g.S.Store c.args.conn.now).now.trees 0)) (not b)) (sym (c.is_empty.ensures ∙ ap (λ n. n == 0) c.in-Ok.found.ok.0))
    (finds (state g.S.Store c.args.conn.now) (state g.S.Store c.query_all.new.self) c.args.code.now c.in-Ok.found.items table (rw c.to_sql.ensures at (c.in-Ok.ensures.ok up.0)))

pub returns-in-Ok-clause-ok : goal.returns-in-Ok-clause-ok
returns-in-Ok-clause-ok g c up table =
    found_stays (state g.S.Store c.args.conn.now) (state g.S.Store c.query_all.new.self) c.args.code.now c.in-Ok.found.items table (rw c.to_sql.ensures at (c.in-Ok.ensures.ok up.0))

pub returns-in-Err-clause-up : goal.returns-in-Err-clause-up
returns-in-Err-clause-up g c up = (
  omega (arith, up.0, c.in-Err.ensures.survives.clean),
  (query_failed (state g.S.Store c.args.conn.now) (state g.S.Store c.query_all.new.self) select_text (Text c.args.code.now ∷ []) c.in-Err.error up.1 (rw c.to_sql.ensures at (c.in-Err.ensures.err up.0))).0,
)

pub returns-in-Err-clause-err : goal.returns-in-Err-clause-err
returns-in-Err-clause-err g c up =
    (query_failed (state g.S.Store c.args.conn.now) (state g.S.Store c.query_all.new.self) select_text (Text c.args.code.now ∷ []) c.in-Err.error up.1 (rw c.to_sql.ensures at (c.in-Err.ensures.err up.0))).1
