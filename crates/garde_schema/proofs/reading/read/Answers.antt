use Rattle.garde_schema.proofs.AllFaults.{answers_whole}
use Rattle.garde_schema.proofs.reading.read.Goals as goal

pub returns-in-Err-clause-answer : goal.returns-in-Err-clause-answer
returns-in-Err-clause-answer g c =
    answers_whole (g.F.Form.visits c.args.form.now (g.H.FormI18n.form_text c.args.h.now) c.args.tree.now) _ c.in-Err.error c.into_whole.ensures c.in-Err.ensures.answer c.in-Err.ensures.whole
