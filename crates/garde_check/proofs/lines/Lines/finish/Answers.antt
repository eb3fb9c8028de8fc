use Rattle.std.proofs.Common.{◌≡◌, ◌∙◌, sym, subst}
use Rattle.std.specs.Str.{IsUtf8}
use Rattle.garde_check.proofs.Cuts.{rest_is_text, rest_lines}
use Rattle.garde_check.proofs.lines.Lines.finish.Goals as goal

pub returns-in_default-clause-err : goal.returns-in_default-clause-err
returns-in_default-clause-err c = λ text cut is.
    (c.in_default.ensures {u = tt}).cases.0 (subst IsUtf8 (sym c.as_slice.ensures.value) ((rest_is_text cut).0 is))

pub returns-clause-lines : goal.returns-clause-lines
returns-clause-lines c = λ text cut.
    let told = (c.in-Ok.ensures {u = tt}).cases in
    let same : c.in-Ok.text.now ≡ c.args.self.rest.items = told.0 ∙ c.as_slice.ensures.value in
    let last = c.in_ok-cut_last.ensures {u = tt} in (
      (rest_is_text cut).1 (subst IsUtf8 c.as_slice.ensures.value told.1),
      rest_lines cut ∙ (rw (← same) last.lines),
      last.named (cut.named tt),
    )
