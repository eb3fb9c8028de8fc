use Rattle.std.proofs.Common.{◌∙◌, sym, ap, arith, Some, None, option_map}
use Rattle.std.proofs.lemmas.Str.Pattern.{strip_prefix_char, strip_suffix_char}
use Rattle.garde_service.proofs.Segments.{not_opened, of_braces}
use Rattle.garde_service.proofs.paths.parameter_in.Goals as goal

pub returns-in_err-strip_prefix : goal.returns-in_err-strip_prefix
returns-in_err-strip_prefix c =
    let none = strip_prefix_char 123 c.args.segment.now None c.in_err-strip_prefix.ensures.cases (omega arith) in
    ap (option_map (λ name. name.now)) c.from_residual.ensures ∙ sym (not_opened c.args.segment.now none)

pub returns : goal.returns
returns c =
    let opened = strip_prefix_char 123 c.args.segment.now (Some c.in_ok-strip_prefix.field-0) c.in_ok-strip_prefix.ensures.cases (omega arith) in
    let closing = strip_suffix_char 125 c.in_ok-strip_prefix.field-0.now c.strip_suffix.result c.strip_suffix.ensures.cases (omega arith) in
    of_braces _ _ c.strip_suffix.result opened closing
