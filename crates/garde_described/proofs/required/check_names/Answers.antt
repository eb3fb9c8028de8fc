use Rattle.std.proofs.Common.{rules}
use Rattle.garde_described.specs.Faults.{required_asks}
use Rattle.garde_described.proofs.Walks.{turn_then, turn_stop, turn_end}
use Rattle.garde_described.proofs.required.check_names.Goals as goal

pub loop-name-preserved : goal.loop-name-preserved
loop-name-preserved g c = λ after new answer rest.
    c.loop-name.invariant after new answer (turn_then (required_asks (g.H.FormI18n.form_text c.args.h.now) c.args.tree.now) _ _ _ c.in-Some.ensures.steps c.check_item.ensures (search rules) rest)

pub returns-in_err-check_item : goal.returns-in_err-check_item
returns-in_err-check_item g c =
    c.loop-name.invariant _ _ _ (turn_stop (required_asks (g.H.FormI18n.form_text c.args.h.now) c.args.tree.now) _ _ _ c.in-Some.ensures.steps c.check_item.ensures (search rules) c.from_residual.ensures.0)

pub returns : goal.returns
returns g c = c.loop-name.invariant _ _ _ (turn_end (required_asks (g.H.FormI18n.form_text c.args.h.now) c.args.tree.now) _ c.in_default.ensures.steps.0)
