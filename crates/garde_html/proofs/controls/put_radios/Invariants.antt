use Rattle.std.proofs.Common.{◌≡◌, ◌++◌, drop}
use Rattle.garde_html.specs.Controls.{radios_pieces}
use Rattle.garde_html.proofs.controls.put_radios.Given as goal

-- what is written, and then the buttons to come, are all
abbrev pub invariant-loop-one : goal.invariant-loop-one
invariant-loop-one l =
    l.page ++ radios_pieces l.field l.typed (drop l.one-index l.buttons) ≡ l.initial.page ++ radios_pieces l.field l.typed l.buttons
