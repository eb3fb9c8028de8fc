use Rattle.std.proofs.Common.{◌≡◌, drop}
use Rattle.garde_html.specs.Form.{field_at}
use Rattle.garde_html.proofs.form.field_at.Given as goal

-- the field is one of those that are left
abbrev pub invariant-loop-field : goal.invariant-loop-field
invariant-loop-field l =
    field_at (drop l.field-index l.fields) l.name ≡ field_at l.fields l.name
