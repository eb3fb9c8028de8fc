use Rattle.std.proofs.Common.{rules, length}
use Rattle.std.specs.Prelude.{nat_lt}
use Rattle.garde.proofs.Author.{visited_when, visited_unless}
use Rattle.garde_schema.proofs.in_order.check_count.Goals as goal

pub returns-then-has_more : goal.returns-then-has_more
returns-then-has_more g c = visited_when (nat_lt c.args.count (length c.args.items)) _ (search rules) c.put_at.ensures

pub returns-else-has_more : goal.returns-else-has_more
returns-else-has_more g c = visited_unless (nat_lt c.args.count (length c.args.items)) _ (search rules)
