use Rattle.std.proofs.Common.{rules}
use Rattle.garde_rows.proofs.Header.{known_then, known_stop, known_end}
use Rattle.garde_rows.proofs.names.check_names.Goals as goal

pub loop-name-preserved : goal.loop-name-preserved
loop-name-preserved g c = λ after new answer rest.
    c.loop-name.invariant after new answer (known_then _ c.args.header.now c.args.names.now c.loop-name.name-index _ (search rules) c.check_name.ensures (search rules) rest)

pub returns-in_err-check_name : goal.returns-in_err-check_name
returns-in_err-check_name g c =
    c.loop-name.invariant _ _ _ (known_stop _ c.args.header.now c.args.names.now c.loop-name.name-index _ (search rules) c.check_name.ensures (search rules) c.from_residual.ensures.0)

pub returns : goal.returns
returns g c = c.loop-name.invariant _ _ _ (known_end _ c.args.header.now c.args.names.now c.loop-name.name-index (search rules))
