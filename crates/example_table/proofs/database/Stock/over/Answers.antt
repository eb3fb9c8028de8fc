use Rattle.std.proofs.Common.{subst, sym, ◌∙◌}
use Rattle.std.proofs.lemmas.Bool.{true≢false}
use Rattle.example_table.specs.Stock.{IsBound, IsReady}
use Rattle.example_table.proofs.Rejecting.{rejected}
use Rattle.example_table.proofs.database.Stock.over.Goals as goal

pub returns-then-is_ready-clause-found : goal.returns-then-is_ready-clause-found
returns-then-is_ready-clause-found g c _ = (c.found.ensures.1, subst IsReady c.schema-schema.ensures.value (c.is_ready.ensures.0 c.if-is_ready.true))

pub returns-then-is_bound-clause-rejected : goal.returns-then-is_bound-clause-rejected
returns-then-is_bound-clause-rejected g c = subst IsBound c.schema-schema.ensures.value (c.is_bound.ensures.0 c.if-is_bound.true)

pub returns-else-is_bound-clause-rejected : goal.returns-else-is_bound-clause-rejected
returns-else-is_bound-clause-rejected g c =
    let is = c.schema-schema.ensures.value in
    rejected g.S.Store c.args.conn (λ ready. true≢false (sym (c.is_ready.ensures.1 (subst IsReady (sym is) ready)) ∙ c.if-is_ready.false))
    (λ bound. true≢false (sym (c.is_bound.ensures.1 (subst IsBound (sym is) bound)) ∙ c.if-is_bound.false)) c.make.result c.make.ensures.refused
