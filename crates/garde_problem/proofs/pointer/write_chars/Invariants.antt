use Rattle.std.specs.Fmt.{HasWritten, IsPlainFormatter}
use Rattle.std.specs.Str.{encode_utf8_all}
use Rattle.garde_problem.specs.Pointer.{token}
use Rattle.garde_problem.proofs.pointer.write_chars.Given as goal

-- the token of the characters so far is written
abbrev pub invariant-loop-c : goal.invariant-loop-c
invariant-loop-c g l =
    IsPlainFormatter l.initial.f
    → HasWritten g.W.Write.write_str_gives l.initial.f (token (encode_utf8_all l.yielded)) l.f
