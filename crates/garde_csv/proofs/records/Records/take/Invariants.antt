use Rattle.std.proofs.Common.{◌≡◌, []}
use Rattle.csv.specs.Records.{fields_of, partial_of}
use Rattle.garde_csv.proofs.Taking.{Follows}
use Rattle.garde_csv.specs.Lists.{list_state, next_line, rest_of}
use Rattle.garde_csv.specs.Quotes.{seen_of, unbegun}
use Rattle.garde_csv.proofs.records.Records.take.Given as goal

abbrev pub invariant-pieces : goal.invariant-pieces
invariant-pieces g l = Follows (unbegun (list_state l.fn.self) (next_line l.fn.self)) (rest_of g.R.Read.remaining l.fn.self)
    (seen_of l.walk) (fields_of l.cells) l.self.cell.items (rest_of g.R.Read.remaining l.self)
    × (partial_of l.cells ≡ [])
    × (l.self.failed ≡ l.fn.self.failed)
    × (l.self.place ≡ l.fn.self.place)
