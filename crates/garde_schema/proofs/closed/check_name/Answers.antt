use Rattle.std.proofs.Common.{◌≡◌, true, false, ap}
use Rattle.std.specs.Prelude.{not}
use Rattle.garde.proofs.Author.{visited_when, visited_unless}
use Rattle.garde_schema.proofs.closed.check_name.Goals as goal

pub returns-then-names : goal.returns-then-names
returns-then-names g c =
    let named : g.M.Members.names c.args.named.now c.args.name.now ≡ true = cc in
    visited_unless (not (g.M.Members.names c.args.named.now c.args.name.now)) _ (ap not named)

pub returns-else-names : goal.returns-else-names
returns-else-names g c =
    let unnamed : g.M.Members.names c.args.named.now c.args.name.now ≡ false = cc in
    visited_when (not (g.M.Members.names c.args.named.now c.args.name.now)) _ (ap not unnamed) c.put_under.ensures
