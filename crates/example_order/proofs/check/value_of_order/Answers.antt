use Rattle.std.proofs.Common.{inl}
use Rattle.example_order.proofs.check.value_of_order.Goals as goal

pub returns : goal.returns
returns c =
    let found = c.value_of_body.ensures in
    inl (found.0, (found.1, found.2), found.3)
