use Rattle.std.proofs.Common.{◌≡◌, option_map, sym, ap, ◌∙◌}
use Rattle.json.specs.Json.{object}
use Rattle.json.specs.Find.{get, as_object}
use Rattle.garde_tape.specs.Look.{get_in}
use Rattle.garde_tape.specs.Reading.{member_list}
use Rattle.garde_tape.specs.Source.{source_json}
use Rattle.garde_tape.specs.Texts.{field_members}
use Rattle.garde_tape.proofs.Fields.{field_members-list}
use Rattle.garde_tape.proofs.Finding.{get_in-list, got_in}
use Rattle.garde_tape.proofs.tree.Tree.get.Goals as goal

pub returns-in-Some : goal.returns-in-Some
returns-in-Some c =
    let name = c.args.name.now in
    let whole : c.in-Tape.tree ≡ c.args.self.now = ap source_json (sym c.in-Tape.is) ∙ c.self.view_is in
    let all = c.in-Some.ensures.value ∙ ap (λ j. option_map member_list (as_object j)) whole in
    c.get_member.ensures ∙ got_in name c.args.self.now _ all

pub returns-in-Fields : goal.returns-in-Fields
returns-in-Fields c =
    let name = c.args.name.now in
    let whole : object (field_members c.in-Fields.fields.now) ≡ c.args.self.now = ap source_json (sym c.in-Fields.is) ∙ c.self.view_is in
    c.get_field.ensures ∙ ap (get_in name) (sym (field_members-list c.in-Fields.fields.now)) ∙ sym (get_in-list name (field_members c.in-Fields.fields.now)) ∙ ap (get name) whole
