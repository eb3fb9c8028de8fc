use Rattle.std.specs.Fmt.{HasWritten, IsPlainFormatter}
use Rattle.std.specs.List.{flat_map}
use Rattle.garde_places.specs.Escape.{written_char}
use Rattle.garde_places.proofs.escape.write_text.Given as goal

-- the characters so far are written, each as its escape says
abbrev pub invariant-loop-c : goal.invariant-loop-c
invariant-loop-c g l =
    IsPlainFormatter l.initial.f
    → HasWritten g.W.Write.write_str_gives l.initial.f (flat_map (written_char l.escape) l.yielded) l.f
