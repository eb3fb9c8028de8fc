use Rattle.std.proofs.Common.{◌≡◌, None, drop, option_map}
use Rattle.garde_tape.specs.Look.{answer_from}
use Rattle.garde_tape.specs.Texts.{field_json, field_list}
use Rattle.garde_tape.proofs.find.field_spot_in.Given as goal

abbrev pub invariant-loop-field : goal.invariant-loop-field
invariant-loop-field l = answer_from l.name None (field_list l.fields) ≡ answer_from l.name (option_map (λ value. field_json value.now) l.first) (field_list (drop l.field-index l.fields))
