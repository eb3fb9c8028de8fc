use Rattle.std.proofs.Common.{◌≡◌, ◌++◌}
use Rattle.example_types.proofs.valid.page.baskets.Given as goal

-- the baskets so far, and those that are left
abbrev pub invariant-loop-basket : goal.invariant-loop-basket
invariant-loop-basket l = l.baskets.items ++ l.basket-iterator.rest.items ≡ l.fn.page.entries.items
