use Rattle.std.proofs.Common.{sym, ◌∙◌}
use Rattle.garde_html.proofs.Parts.{passed}
use Rattle.garde_html.proofs.summary.has_part.Goals as goal

-- where the text does not begin with the part there, it is one of the rest
pub loop-at-preserved : goal.loop-at-preserved
loop-at-preserved c =
    passed c.args.text.now c.args.part.now c.loop-at.at c.loop-at-test.true (sym c.starts_with.ensures.value ∙ c.if-starts_with.false)
    ∙ c.loop-at.invariant
