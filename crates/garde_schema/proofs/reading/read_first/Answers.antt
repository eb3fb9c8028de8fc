use Rattle.std.proofs.Common.{ap, sym, subst, ◌∙◌, arith}
use Rattle.garde.proofs.Author.{known_of}
use Rattle.garde_schema.proofs.Examined.{examined_valid, examined_faults, examined_first}
use Rattle.garde_schema.proofs.Lemmas.{taken_none, taken_keeps}
use Rattle.garde_schema.proofs.reading.read_first.Goals as goal

pub returns-then-len-most-clause-answer : goal.returns-then-len-most-clause-answer
returns-then-len-most-clause-answer g c =
    examined_first (g.F.Form.visits c.args.form.now (g.H.FormI18n.form_text c.args.h.now) c.args.tree.now) c.args.most (ap (λ w. w.components) c.limit.ensures.set ∙ ap (λ w. w.components) c.new-trail.ensures) c.new-report.ensures c.read-taken.ensures.answer (grind (arith, c.if-len-most.true, c.len.ensures)) c.truncate.ensures

pub returns-in-Ok-clause-answer : goal.returns-in-Ok-clause-answer
returns-in-Ok-clause-answer g c = (
  grind (arith, c.if-len-most.false, c.len.ensures),
  examined_faults (g.F.Form.visits c.args.form.now (g.H.FormI18n.form_text c.args.h.now) c.args.tree.now) (ap (λ w. w.components) c.limit.ensures.set ∙ ap (λ w. w.components) c.new-trail.ensures) c.new-report.ensures c.in-Ok.ensures.answer.ok (sym c.is_empty.ensures ∙ c.if-not-is_empty.true),
)

pub returns-in-Ok-Some-clause-answer : goal.returns-in-Ok-Some-clause-answer
returns-in-Ok-Some-clause-answer g c =
    examined_valid (g.F.Form.visits c.args.form.now (g.H.FormI18n.form_text c.args.h.now) c.args.tree.now) (ap (λ w. w.components) c.limit.ensures.set ∙ ap (λ w. w.components) c.new-trail.ensures) c.new-report.ensures c.in-Ok.ensures.answer.ok (sym c.is_empty.ensures ∙ c.if-not-is_empty.false)

pub returns-in-Ok-Some-clause-keeps : goal.returns-in-Ok-Some-clause-keeps
returns-in-Ok-Some-clause-keeps g c =
    subst (λ out. g.F.Form.keeps c.args.form.now out) (sym c.in-Ok-Some.out-is) (taken_keeps _ _ _ _ _ c.in-Ok.ensures.value c.in-Ok.ensures.sound (known_of (g.F.Form.visits c.args.form.now (g.H.FormI18n.form_text c.args.h.now) c.args.tree.now) (returns-in-Ok-Some-clause-answer g c)) c.in-Ok-Some.field-0-is)

pub unreachable-requires : goal.unreachable-requires
unreachable-requires g c =
    taken_none _ _ _ _ c.in-Ok.ensures.value c.in-Ok.ensures.sound (known_of (g.F.Form.visits c.args.form.now (g.H.FormI18n.form_text c.args.h.now) c.args.tree.now) (examined_valid (g.F.Form.visits c.args.form.now (g.H.FormI18n.form_text c.args.h.now) c.args.tree.now) (ap (λ w. w.components) c.limit.ensures.set ∙ ap (λ w. w.components) c.new-trail.ensures) c.new-report.ensures c.in-Ok.ensures.answer.ok (sym c.is_empty.ensures ∙ c.if-not-is_empty.false))) c.in-Ok-None.field-0-is
