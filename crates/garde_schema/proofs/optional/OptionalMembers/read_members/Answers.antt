use Rattle.garde_report.specs.Part.{key_part}
use Rattle.garde_schema.proofs.Lemmas.{optional_found}
use Rattle.garde_schema.proofs.optional.OptionalMembers.read_members.Goals as goal

pub returns-clause-answer : goal.returns-clause-answer
returns-clause-answer g c = optional_found (key_part c.args.self.now.0.now) (g.H.FormI18n.form_text c.args.h.now) (λ v. g.F.Form.visits c.args.self.now.1 (g.H.FormI18n.form_text c.args.h.now) v) _ _ c.find-found.ensures c.read_optional.ensures.answer
