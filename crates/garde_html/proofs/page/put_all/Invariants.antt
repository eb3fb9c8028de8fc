use Rattle.std.proofs.Common.{◌≡◌, ◌++◌, drop, map}
use Rattle.garde_html.specs.Page.{piece_of}
use Rattle.garde_html.proofs.page.put_all.Given as goal

-- those that were appended, and then those to come, are all
abbrev pub invariant-loop-piece : goal.invariant-loop-piece
invariant-loop-piece l =
    map piece_of l.all.items ++ map piece_of (drop l.piece-index l.pieces) ≡ map piece_of l.initial.all.items ++ map piece_of l.pieces
