use Rattle.std.proofs.Common.{◌≡◌, drop}
use Rattle.garde_html.specs.Summary.{has_part}
use Rattle.garde_html.proofs.summary.has_part.Given as goal

-- the part is one of what is left
abbrev pub invariant-loop-at : goal.invariant-loop-at
invariant-loop-at l =
    has_part l.part (drop l.at l.text) ≡ has_part l.part l.text
