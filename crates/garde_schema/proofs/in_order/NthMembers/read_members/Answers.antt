use Rattle.std.proofs.Common.{refl}
use Rattle.garde_report.specs.Part.{index_part}
use Rattle.garde_schema.proofs.Lemmas.{told_under, told_under_full, told_found}
use Rattle.garde_schema.proofs.in_order.NthMembers.read_members.Goals as goal

pub returns-in_err-push-clause-answer : goal.returns-in_err-push-clause-answer
returns-in_err-push-clause-answer g c = told_under_full (index_part c.args.self.now.0) _ c.from_residual.result refl c.in_err-push.ensures.err c.in_err-push.ensures.full c.from_residual.ensures.0

pub returns-clause-answer : goal.returns-clause-answer
returns-clause-answer g c = told_under (index_part c.args.self.now.0) _ c.index.ensures c.push.ensures.valid c.in_ok-push.ensures.ok (told_found (g.H.FormI18n.form_text c.args.h.now) (λ v. g.F.Form.visits c.args.self.now.1 (g.H.FormI18n.form_text c.args.h.now) v) _ _ c.item_in-found.ensures c.read_found-value.ensures.answer) c.pop.ensures
