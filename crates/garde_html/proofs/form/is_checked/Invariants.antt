use Rattle.std.proofs.Common.{◌≡◌, drop}
use Rattle.garde_html.specs.Form.{is_checked}
use Rattle.garde_html.proofs.form.is_checked.Given as goal

-- the text is one of those that are left, if it was sent
abbrev pub invariant-loop-field : goal.invariant-loop-field
invariant-loop-field l =
    is_checked l.name l.value (drop l.field-index l.typed) ≡ is_checked l.name l.value l.typed
