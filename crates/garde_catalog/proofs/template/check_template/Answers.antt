use Rattle.std.proofs.Common.{◌∙◌, sym}
use Rattle.garde_catalog.proofs.Judged.{bad, good}
use Rattle.garde_catalog.proofs.template.check_template.Goals as goal

pub returns-in-None-clause-ok : goal.returns-in-None-clause-ok
returns-in-None-clause-ok c = good c.args.text.now c.args.first.now c.args.second.now (sym c.template_fault.ensures ∙ c.in-None.is)

pub returns-in-Some-clause-err : goal.returns-in-Some-clause-err
returns-in-Some-clause-err c = λ _. bad c.args.text.now c.args.first.now c.args.second.now c.in-Some.fault (sym c.template_fault.ensures ∙ c.in-Some.is)
