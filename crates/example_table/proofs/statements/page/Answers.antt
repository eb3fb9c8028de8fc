use Rattle.std.proofs.Common.{◌≡◌, ℤ, [], ◌∷◌, FitsSigned, arith, of_z, rules, subst, to_z, w64}
use Rattle.std.proofs.lemmas.Int.{to_z-of_z}
use Rattle.example_table.specs.Stock.{page_behind}
use Rattle.sqlite.specs.declared.types.Value.TheVariants.{Int}
use Rattle.sqlite.specs.Held.{state}
use Rattle.example_table.proofs.Failing.{query_open, query_failed}
use Rattle.example_table.proofs.Paging.{page_shows, page_stays, page_text}
use Rattle.example_table.proofs.statements.page.Goals as goal

pub returns-in-Ok-clause-up : goal.returns-in-Ok-clause-up
returns-in-Ok-clause-up g c up = (
  omega (arith, up.0, c.in-Ok.ensures.survives.clean),
  query_open (state g.S.Store c.args.conn.now) (state g.S.Store c.query_all.new.self) page_text (Int _ ∷ []) c.in-Ok.rows.items (c.in-Ok.ensures.ok up.0),
)

pub returns-in-Ok-clause-ok : goal.returns-in-Ok-clause-ok
returns-in-Ok-clause-ok g c up table =
    page_stays (state g.S.Store c.args.conn.now) (state g.S.Store c.query_all.new.self) _ c.in-Ok.rows.items table (c.in-Ok.ensures.ok up.0)

pub returns-in-Err-clause-up : goal.returns-in-Err-clause-up
returns-in-Err-clause-up g c up = (
  omega (arith, up.0, c.in-Err.ensures.survives.clean),
  (query_failed (state g.S.Store c.args.conn.now) (state g.S.Store c.query_all.new.self) page_text (Int _ ∷ []) c.in-Err.error up.1 (c.in-Err.ensures.err up.0)).0,
)

pub returns-in-Err-clause-err : goal.returns-in-Err-clause-err
returns-in-Err-clause-err g c up =
    (query_failed (state g.S.Store c.args.conn.now) (state g.S.Store c.query_all.new.self) page_text (Int _ ∷ []) c.in-Err.error up.1 (c.in-Err.ensures.err up.0)).1

pub returns-in-Ok-clause-rows : goal.returns-in-Ok-clause-rows
returns-in-Ok-clause-rows g c up table ordered =
    let fits : FitsSigned w64 c.args.last = search rules in
    let last = to_z w64 (of_z w64 c.args.last) in
    let same : last ≡ c.args.last = to_z-of_z w64 c.args.last fits in
    subst (λ (n : ℤ). c.in-Ok.rows.items ≡ page_behind n ((state g.S.Store c.args.conn.now).now.trees 0)) same
    (page_shows (state g.S.Store c.args.conn.now) (state g.S.Store c.query_all.new.self) last c.in-Ok.rows.items table ordered (c.in-Ok.ensures.ok up.0))
