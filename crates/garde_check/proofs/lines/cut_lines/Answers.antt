use Rattle.std.proofs.Common.{rules}
use Rattle.garde_check.proofs.Cuts.{cut_none, cut_more}
use Rattle.garde_check.proofs.lines.cut_lines.Goals as goal

pub loop-line-init : goal.loop-line-init
loop-line-init c = (search rules, cut_none _ _)

pub loop-line-preserved : goal.loop-line-preserved
loop-line-preserved c =
    let parts = c.in-Some.ensures.parts in (
      search rules,
      cut_more _ _ c.in-Some.line.now c.in-Some.after.now _ c.loop-line.users.items c.push.new.self.items c.in_ok-user_of.field-0 c.loop-line.invariant.1
          parts.0 parts.1 c.in_ok-push.ensures.items c.in_ok-user_of.ensures.text c.in_ok-user_of.ensures.named,
    )

pub returns-clause-line : goal.returns-clause-line
returns-clause-line c = (c.in_default.ensures {u = tt}).parts
