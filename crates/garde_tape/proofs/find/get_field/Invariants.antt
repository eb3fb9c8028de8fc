use Rattle.std.proofs.Common.{◌≡◌, drop}
use Rattle.json.specs.Find.{later_or}
use Rattle.garde_tape.specs.Look.{get_in}
use Rattle.garde_tape.specs.Texts.{field_list}
use Rattle.garde_tape.proofs.find.get_field.Given as goal

abbrev pub invariant-loop-field : goal.invariant-loop-field
invariant-loop-field l = get_in l.name (field_list l.fields) ≡ later_or (get_in l.name (field_list (drop l.field-index l.fields))) l.last
