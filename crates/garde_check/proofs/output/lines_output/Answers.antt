use Rattle.std.proofs.Common.{string_bytes}
use Rattle.garde_check.proofs.OneTree.{lines_reported}
use Rattle.garde_check.proofs.output.lines_output.Goals as goal

pub returns-clause-ok : goal.returns-clause-ok
returns-clause-ok c = λ text cut.
    let output = c.in_ok-output.output in
    let told = (c.in_ok-users.ensures {u = tt}).lines text cut in (
      told.0,
      lines_reported c.args.command c.args.most c.in_ok-users.users.items text (string_bytes output.text) output.outcome told.1 told.2 c.in_ok-output.ensures,
    )
