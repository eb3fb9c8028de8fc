use Rattle.std.proofs.Common.{◌≡◌, ◌≤◌, ◌-◌, [], drop, length, false}
use Rattle.csv.specs.Records.{fields_of, partial_of}
use Rattle.garde_csv.specs.Quotes.{seen_of}
use Rattle.garde_csv.specs.Steps.{Reads}
use Rattle.garde_csv.proofs.feed.feed.Given as goal

abbrev pub invariant-parts : goal.invariant-parts
invariant-parts l = (l.at ≤ length l.text) × (partial_of l.cells ≡ [])
    × Reads (seen_of l.fn.walk) (fields_of l.fn.cells) l.fn.cell.items l.text (seen_of l.walk) (fields_of l.cells) l.cell.items (drop l.at l.text) false

abbrev pub decreases-parts : goal.decreases-parts
decreases-parts l = length l.text - l.at
