use Rattle.std.proofs.Common.{◌≡◌, ◌++◌, drop, map, string_bytes}
use Rattle.garde_html.specs.Page.{piece_of, rendered}
use Rattle.garde_html.proofs.page.html_of.Given as goal

-- what is written, and then the pieces to come, are the whole page
abbrev pub invariant-loop-piece : goal.invariant-loop-piece
invariant-loop-piece l =
    string_bytes l.html ++ rendered (map piece_of (drop l.piece-index l.pieces)) ≡ rendered (map piece_of l.pieces)
