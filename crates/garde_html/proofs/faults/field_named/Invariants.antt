use Rattle.std.proofs.Common.{◌≡◌, drop}
use Rattle.garde_html.specs.Fields.{field_named, texts_of}
use Rattle.garde_html.proofs.faults.field_named.Given as goal

-- the field is one of those that are left
abbrev pub invariant-loop-field : goal.invariant-loop-field
invariant-loop-field l = field_named (texts_of (drop l.field-index l.fields)) l.text ≡ field_named (texts_of l.fields) l.text
