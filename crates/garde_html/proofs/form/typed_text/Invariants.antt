use Rattle.std.proofs.Common.{◌≡◌, drop}
use Rattle.garde_html.specs.Form.{typed_text}
use Rattle.garde_html.proofs.form.typed_text.Given as goal

-- the text is one of those that are left
abbrev pub invariant-loop-field : goal.invariant-loop-field
invariant-loop-field l =
    typed_text l.name (drop l.field-index l.typed) ≡ typed_text l.name l.typed
