use Rattle.garde_rows.proofs.Whole.{sound_whole, sound_other, told_whole, told_other}
use Rattle.garde_rows.proofs.row_form.read_cells.Goals as goal

pub returns-then-row-clause-answer : goal.returns-then-row-clause-answer
returns-then-row-clause-answer g c =
    let texts = g.H.FormI18n.form_text c.args.h.now in
    told_whole texts c.args.row.now.is_whole (g.F.Form.visits c.args.row.now.form.now texts c.args.tree.now) c.if-row.true c.read.ensures.answer

pub returns-then-row-clause-sound : goal.returns-then-row-clause-sound
returns-then-row-clause-sound g c =
    let texts = g.H.FormI18n.form_text c.args.h.now in
    sound_whole c.read.result texts c.args.row.now.is_whole (g.F.Form.visits c.args.row.now.form.now texts c.args.tree.now) (λ out. g.F.Form.keeps c.args.row.now.form.now out) _ c.if-row.true c.read.ensures.sound

pub returns-in-Ok-clause-answer : goal.returns-in-Ok-clause-answer
returns-in-Ok-clause-answer g c =
    let texts = g.H.FormI18n.form_text c.args.h.now in
    told_other texts c.args.row.now.is_whole (g.F.Form.visits c.args.row.now.form.now texts c.args.tree.now) c.if-row.false c.in-Ok.ensures

pub returns-in-Ok-clause-sound : goal.returns-in-Ok-clause-sound
returns-in-Ok-clause-sound g c =
    let texts = g.H.FormI18n.form_text c.args.h.now in
    sound_other texts c.args.row.now.is_whole (g.F.Form.visits c.args.row.now.form.now texts c.args.tree.now) (λ out. g.F.Form.keeps c.args.row.now.form.now out) _ c.if-row.false

pub returns-in-Err-clause-answer : goal.returns-in-Err-clause-answer
returns-in-Err-clause-answer g c =
    let texts = g.H.FormI18n.form_text c.args.h.now in
    told_other texts c.args.row.now.is_whole (g.F.Form.visits c.args.row.now.form.now texts c.args.tree.now) c.if-row.false c.in-Err.ensures
