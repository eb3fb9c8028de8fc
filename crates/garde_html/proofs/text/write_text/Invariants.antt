use Rattle.std.specs.Fmt.{HasWritten, IsPlainFormatter}
use Rattle.std.specs.Str.{encode_utf8_all}
use Rattle.garde_html.specs.Html.{html_text}
use Rattle.garde_html.proofs.text.write_text.Given as goal

-- the characters so far are written, each as itself or as its entity
abbrev pub invariant-loop-c : goal.invariant-loop-c
invariant-loop-c g l =
    IsPlainFormatter l.initial.f
    → HasWritten g.W.Write.write_str_gives l.initial.f (html_text (encode_utf8_all l.yielded)) l.f
