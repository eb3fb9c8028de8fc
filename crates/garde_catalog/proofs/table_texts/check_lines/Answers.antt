use Rattle.std.proofs.Common.{rules}
use Rattle.garde_catalog.specs.Lines.{line_visits}
use Rattle.garde_catalog.proofs.LinesRead.{turn_end, turn_stop, turn_then}
use Rattle.garde_catalog.proofs.table_texts.check_lines.Goals as goal

pub loop-message-preserved : goal.loop-message-preserved
loop-message-preserved g c = λ after new answer rest.
    c.loop-message.invariant after new answer (turn_then (λ m. line_visits c.args.may_lack (g.H.FormI18n.form_text c.args.h.now) c.args.object.now m) c.args.messages.now c.loop-message.message-index _ (search rules) c.check_line.ensures (search rules) rest)

pub returns-in_err-check_line : goal.returns-in_err-check_line
returns-in_err-check_line g c =
    c.loop-message.invariant _ _ _ (turn_stop (λ m. line_visits c.args.may_lack (g.H.FormI18n.form_text c.args.h.now) c.args.object.now m) c.args.messages.now c.loop-message.message-index _ (search rules) c.check_line.ensures (search rules) c.from_residual.ensures.0)

pub returns : goal.returns
returns g c = c.loop-message.invariant _ _ _ (turn_end (λ m. line_visits c.args.may_lack (g.H.FormI18n.form_text c.args.h.now) c.args.object.now m) c.args.messages.now c.loop-message.message-index (search rules))
