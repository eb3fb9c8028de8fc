use Rattle.garde_catalog.proofs.Made.{InOrderUpTo}
use Rattle.garde_catalog.proofs.lines.is_in_order.Given as goal

abbrev pub invariant-loop-place : goal.invariant-loop-place
invariant-loop-place l = InOrderUpTo l.entries l.messages l.place
