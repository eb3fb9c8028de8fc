use Rattle.std.proofs.Common.{rules}
use Rattle.garde.proofs.Author.{as_stated, part, ◌also◌}
use Rattle.example_types.proofs.order.OrderValidate.validate_into.Goals as goal

pub returns : goal.returns
returns g c = as_stated c.visit.ensures (
    part (search rules)  -- number
    also part (search rules)  -- customer
    also part (search rules)  -- street
    also part (search rules)  -- town
    also part (search rules)  -- lines
    also part (search rules)  -- note
    also part (search rules)  -- parcels
    )
