use Rattle.std.proofs.Common.{rules}
use Rattle.garde_schema.proofs.Lemmas.{unknown_then, unknown_stop, unknown_end}
use Rattle.garde_schema.proofs.closed.check_names.Goals as goal

pub loop-name-preserved : goal.loop-name-preserved
loop-name-preserved g c = λ after new answer rest.
    c.loop-name.invariant after new answer (unknown_then (λ name. g.M.Members.names c.args.named.now name) _ _ _ _ c.in-Some.ensures.steps c.check_name.ensures (search rules) rest)

pub returns-in_err-check_name : goal.returns-in_err-check_name
returns-in_err-check_name g c =
    c.loop-name.invariant _ _ _ (unknown_stop (λ name. g.M.Members.names c.args.named.now name) _ _ _ _ c.in-Some.ensures.steps c.check_name.ensures (search rules) c.from_residual.ensures.0)

pub returns : goal.returns
returns g c = c.loop-name.invariant _ _ _ (unknown_end (λ name. g.M.Members.names c.args.named.now name) _ _ c.in_default.ensures.steps.0)
