use Rattle.std.proofs.Common.{◌≡◌, ◌++◌, drop}
use Rattle.garde_html.specs.Controls.{boxes_pieces}
use Rattle.garde_html.proofs.controls.put_boxes.Given as goal

-- what is written, and then the boxes to come, are all
abbrev pub invariant-loop-one : goal.invariant-loop-one
invariant-loop-one l =
    l.page ++ boxes_pieces l.field l.typed l.faulty (drop l.one-index l.boxes) ≡ l.initial.page ++ boxes_pieces l.field l.typed l.faulty l.boxes
