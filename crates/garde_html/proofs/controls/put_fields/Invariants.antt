use Rattle.std.proofs.Common.{◌≡◌, ◌++◌, drop}
use Rattle.garde_html.specs.Controls.{fields_pieces}
use Rattle.garde_html.proofs.controls.put_fields.Given as goal

-- what is written, and then the fields to come, are all
abbrev pub invariant-loop-field : goal.invariant-loop-field
invariant-loop-field l =
    l.page ++ fields_pieces l.typed l.report (drop l.field-index l.fields) ≡ l.initial.page ++ fields_pieces l.typed l.report l.fields
