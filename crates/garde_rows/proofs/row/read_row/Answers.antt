use Rattle.std.proofs.Common.{◌≡◌, subst, sym, ap, ◌∙◌}
use Rattle.csv.specs.Records.{fields_of}
use Rattle.json.specs.Json.{Json, object}
use Rattle.garde.specs.Fields.{index_part}
use Rattle.garde.specs.Visits.{Visits, under}
use Rattle.garde_schema.specs.Forms.{forget}
use Rattle.garde_tape.specs.Texts.{field_members}
use Rattle.garde_rows.specs.Rows.{AnswersRow, if_whole, is_whole, row_json}
use Rattle.garde_rows.proofs.Results.{answers_row, value_row, whole_row}
use Rattle.garde_rows.proofs.row.read_row.Goals as goal

pub returns-clause-answer : goal.returns-clause-answer
returns-clause-answer g c =
    let columns = c.args.columns.now in
    let cells = fields_of c.args.cells.now in
    let texts = g.H.FormI18n.form_text c.args.h.now in
    let visits : Json → Visits = λ j. g.F.Form.visits c.args.form.now texts j in
    let same : fields_of c.columns.inside.header.now ≡ columns = cc in
    let is_row = c.fields.ensures ∙ ap (λ fields. object (field_members fields)) c.held_in.ensures ∙ c.in-Ok.ensures.fields ∙ ap (λ columns. row_json columns cells) same in
    subst (λ whole. AnswersRow columns (under (index_part c.args.index) (if_whole texts whole (visits (row_json columns cells)))) (g.H.I18n.text c.args.h.now) (forget c.read.result))
    c.is_whole-is_whole.ensures
    (answers_row columns (λ j. under (index_part c.args.index) (if_whole texts c.is_whole-is_whole.result (visits j))) (g.H.I18n.text c.args.h.now) _ (row_json columns cells) (forget c.read.result) is_row c.read.ensures.answer)

pub returns-clause-value : goal.returns-clause-value
returns-clause-value g c =
    let cells = fields_of c.args.cells.now in
    let same : fields_of c.columns.inside.header.now ≡ c.args.columns.now = cc in
    let is_row = c.fields.ensures ∙ ap (λ fields. object (field_members fields)) c.held_in.ensures ∙ c.in-Ok.ensures.fields ∙ ap (λ columns. row_json columns cells) same in
    value_row c.read.result c.is_whole-is_whole.result (λ j. g.F.Form.value c.args.form.now j) _ (row_json c.args.columns.now cells) is_row c.read.ensures.value

pub returns-clause-whole : goal.returns-clause-whole
returns-clause-whole g c = whole_row c.read.result c.is_whole-is_whole.result (is_whole c.args.columns.now (fields_of c.args.cells.now)) (sym c.is_whole-is_whole.ensures) _ c.read.ensures.value
