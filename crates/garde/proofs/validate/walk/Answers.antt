use Rattle.std.proofs.Common.{Err, Ok, ap, sym, ◌∙◌, refl, arith}
use Rattle.garde_report.specs.Trace.{with_limit}
use Rattle.garde.specs.declared.first_error.FirstError.TheVariants.{All, First, Memory}
use Rattle.garde.proofs.Answering.{answers_valid, answers_faults, empty_report, filled_report}
use Rattle.garde.proofs.Firsts.{answers_first, answers_memory, answers_set_back}
use Rattle.garde.proofs.validate.walk.Goals as goal

pub returns-then-len-most-clause-on : goal.returns-then-len-most-clause-on
returns-then-len-most-clause-on g c =
    answers_set_back (g.T.Stated.visits c.args.value.now c.args.ctx.now) (g.H.I18n.text c.args.h.now) c.args.most _ c.args.trail.now c.limit-before.new.self c.validate_into-walked.new.trail c.limit.new.self (Err (First c.truncate.new.self)) c.limit-before.ensures.set (c.limit.ensures.set ∙ ap (λ n. with_limit n c.validate_into-walked.new.trail) c.limit-before.ensures.answer)
    (answers_first (g.T.Stated.visits c.args.value.now c.args.ctx.now) c.args.most c.new-report.ensures (grind (arith, c.limit-before.ensures.set)) c.validate_into-walked.ensures (grind (arith, c.if-len-most.true, c.len.ensures)) c.truncate.ensures)

pub returns-in-Ok-clause-on : goal.returns-in-Ok-clause-on
returns-in-Ok-clause-on g c =
    answers_set_back (g.T.Stated.visits c.args.value.now c.args.ctx.now) (g.H.I18n.text c.args.h.now) c.args.most _ c.args.trail.now c.limit-before.new.self c.validate_into-walked.new.trail c.limit.new.self (Ok tt) c.limit-before.ensures.set (c.limit.ensures.set ∙ ap (λ n. with_limit n c.validate_into-walked.new.trail) c.limit-before.ensures.answer)
    (answers_valid (g.T.Stated.visits c.args.value.now c.args.ctx.now) c.new-report.ensures c.in-Ok.ensures.ok (empty_report _ (sym c.is_empty.ensures ∙ c.if-is_empty.true)))

pub returns-in-Ok-2-clause-on : goal.returns-in-Ok-2-clause-on
returns-in-Ok-2-clause-on g c =
    answers_set_back (g.T.Stated.visits c.args.value.now c.args.ctx.now) (g.H.I18n.text c.args.h.now) c.args.most _ c.args.trail.now c.limit-before.new.self c.validate_into-walked.new.trail c.limit.new.self (Err (All c.validate_into-walked.new.report)) c.limit-before.ensures.set (c.limit.ensures.set ∙ ap (λ n. with_limit n c.validate_into-walked.new.trail) c.limit-before.ensures.answer) (
      grind (arith, c.if-len-most.false, c.len.ensures),
      answers_faults (g.T.Stated.visits c.args.value.now c.args.ctx.now) c.new-report.ensures c.in-Ok-2.ensures.ok (filled_report _ (sym c.is_empty.ensures ∙ c.if-is_empty.false)),
    )

pub returns-in-Err-clause-on : goal.returns-in-Err-clause-on
returns-in-Err-clause-on g c =
    answers_set_back (g.T.Stated.visits c.args.value.now c.args.ctx.now) (g.H.I18n.text c.args.h.now) c.args.most _ c.args.trail.now c.limit-before.new.self c.validate_into-walked.new.trail c.limit.new.self (Err Memory) c.limit-before.ensures.set (c.limit.ensures.set ∙ ap (λ n. with_limit n c.validate_into-walked.new.trail) c.limit-before.ensures.answer)
    (answers_memory (g.T.Stated.visits c.args.value.now c.args.ctx.now) c.args.most (grind (arith, c.limit-before.ensures.set)) c.in-Err.ensures refl)
