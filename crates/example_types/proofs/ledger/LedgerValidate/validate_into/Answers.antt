use Rattle.std.proofs.Common.{rules}
use Rattle.garde.proofs.Author.{visited_text_calls}
use Rattle.example_types.proofs.ledger.LedgerValidate.validate_into.Goals as goal

pub returns : goal.returns
returns g c = visited_text_calls _ _ _ _ c.apply.ensures (search rules)
