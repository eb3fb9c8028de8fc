use Rattle.std.proofs.Common.{◌≡◌, rules}
use Rattle.std.proofs.lemmas.Fn.{always_returns_same}
use Rattle.garde_places.specs.Fault.{line_and_column}
use Rattle.garde_places.proofs.order.sort_by_place.Goals as goal

-- the closure gives the line and the column of each fault
pub returns-clause-sorted : goal.returns-clause-sorted
returns-clause-sorted c =
    c.in_ok-sort_by_key.ensures.sorted line_and_column (always_returns_same _ (λ a r. r ≡ line_and_column a.0.now) _ (λ a r f' k. search rules))

pub returns-clause-stable : goal.returns-clause-stable
returns-clause-stable c =
    c.sort_by_key.ensures.stable line_and_column (always_returns_same _ (λ a r. r ≡ line_and_column a.0.now) _ (λ a r f' k. search rules))
