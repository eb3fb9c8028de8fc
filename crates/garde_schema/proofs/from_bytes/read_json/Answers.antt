use Rattle.garde_tape.specs.Input.{without_mark}
use Rattle.garde_schema.proofs.AllFaults.{bytes_answer_whole}
use Rattle.garde_schema.proofs.from_bytes.read_json.Goals as goal

pub returns-in-Err-clause-answer : goal.returns-in-Err-clause-answer
returns-in-Err-clause-answer g c =
    bytes_answer_whole (λ j. g.F.Form.visits c.args.form.now (g.H.FormI18n.form_text c.args.h.now) j) _ (without_mark c.args.input.now) c.in-Err.error c.into_whole.ensures c.in-Err.ensures.answer c.in-Err.ensures.whole
