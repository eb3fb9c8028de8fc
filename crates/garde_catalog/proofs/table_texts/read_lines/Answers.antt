use Rattle.std.proofs.Common.{◌∙◌, rules}
use Rattle.garde_catalog.specs.Lines.{text_of}
use Rattle.garde_catalog.proofs.LinesSoFar.{lines_end, lines_next}
use Rattle.garde_catalog.proofs.table_texts.read_lines.Goals as goal

pub loop-code-preserved : goal.loop-code-preserved
loop-code-preserved c =
    lines_next (λ code. text_of c.args.may_lack c.args.object.now code) c.args.messages.now c.loop-code.code-index _ c.loop-code.table _ _ (search rules) c.text_of.ensures c.in_ok-table.ensures
    ∙ c.loop-code.invariant

pub returns : goal.returns
returns c = lines_end (λ code. text_of c.args.may_lack c.args.object.now code) c.args.messages.now c.loop-code.code-index c.loop-code.table (search rules) c.loop-code.invariant
