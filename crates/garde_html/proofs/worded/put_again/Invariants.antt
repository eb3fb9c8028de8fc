use Rattle.std.proofs.Common.{◌≡◌, ◌++◌, drop}
use Rattle.garde_html.specs.Worded.{again_entries}
use Rattle.garde_html.proofs.worded.put_again.Given as goal

-- what is told, and then the passwords to come, are all
abbrev pub invariant-loop-field : goal.invariant-loop-field
invariant-loop-field g l =
    l.told ++ again_entries (g.H.I18n.text l.h) l.typed l.report (drop l.field-index l.fields)
    ≡ l.initial.told ++ again_entries (g.H.I18n.text l.h) l.typed l.report l.fields
