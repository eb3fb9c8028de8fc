use Rattle.std.proofs.Common.{◌≡◌, ◌++◌, drop}
use Rattle.garde_html.specs.Controls.{options_pieces}
use Rattle.garde_html.proofs.controls.put_options.Given as goal

-- what is written, and then the lines to come, are all
abbrev pub invariant-loop-one : goal.invariant-loop-one
invariant-loop-one l =
    l.page ++ options_pieces l.field l.typed (drop l.one-index l.options) ≡ l.initial.page ++ options_pieces l.field l.typed l.options
