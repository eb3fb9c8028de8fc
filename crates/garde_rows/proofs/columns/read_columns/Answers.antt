use Rattle.std.proofs.Common.{Ok, Err, ap, ◌∙◌}
use Rattle.csv.specs.Records.{fields_of}
use Rattle.json.specs.Find.{as_object}
use Rattle.json.specs.Json.{Json, object}
use Rattle.garde.specs.Visits.{Visits, ◌and◌}
use Rattle.garde_tape.specs.Look.{kind_of}
use Rattle.garde_tape.specs.Texts.{field_members}
use Rattle.garde_schema.specs.Forms.{formed}
use Rattle.garde_schema.specs.Members.{members_in, unknown}
use Rattle.garde_schema.specs.declared.fault.FormFault.TheVariants.{Wrong}
use Rattle.garde_schema.specs.declared.fault.Wanted.TheVariants as wanted
use Rattle.garde_rows.specs.Rows.{row_json}
use Rattle.garde_rows.proofs.Results.{answers_row}
use Rattle.garde_rows.proofs.columns.read_columns.Goals as goal

pub returns-clause-answer : goal.returns-clause-answer
returns-clause-answer g c =
    let texts = g.H.FormI18n.form_text c.args.h.now in
    let header = fields_of c.args.header.now in
    let asked : Json → Visits = λ j. formed (texts (Wrong wanted.Object (kind_of j))) (λ _. g.M.Members.visits c.args.known texts j and unknown (λ name. g.M.Members.names c.args.known name) texts (members_in j)) (as_object j) in
    let is_header = c.fields.ensures ∙ ap (λ fields. object (field_members fields)) c.held_in.ensures ∙ c.in-Ok.ensures.fields in
    answers_row header asked (g.H.I18n.text c.args.h.now) _ (row_json header header) (Err c.in-Err.error) is_header c.in-Err.ensures.answer

pub returns-in-Ok-read-clause-answer : goal.returns-in-Ok-read-clause-answer
returns-in-Ok-read-clause-answer g c =
    let texts = g.H.FormI18n.form_text c.args.h.now in
    let header = fields_of c.args.header.now in
    let asked : Json → Visits = λ j. formed (texts (Wrong wanted.Object (kind_of j))) (λ _. g.M.Members.visits c.args.known texts j and unknown (λ name. g.M.Members.names c.args.known name) texts (members_in j)) (as_object j) in
    let is_header = c.fields.ensures ∙ ap (λ fields. object (field_members fields)) c.held_in.ensures ∙ c.in-Ok.ensures.fields in
    answers_row header asked (g.H.I18n.text c.args.h.now) _ (row_json header header) (Ok tt) is_header c.in-Ok-read.ensures.answer
