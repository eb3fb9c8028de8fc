use Rattle.std.proofs.Common.{◌≡◌, [], ℕ, List}
use Rattle.std.specs.Prelude.{IfOk}
use Rattle.serde_json.specs.View.{members_view}
use Rattle.garde_check.specs.Body.{entries_of}
use Rattle.garde_check.specs.Request.{entries_of_members}
use Rattle.garde_check.proofs.body.json.addresses_of.Given as goal

-- the addresses so far were made, and those of the members that are left go to them
abbrev pub invariant-loop-name : goal.invariant-loop-name
invariant-loop-name l =
    (done : List (List ℕ × List ℕ)) × (entries_of_members [] (members_view l.initial.name-iterator) ≡ entries_of_members done (members_view l.name-iterator))
    × IfOk l.addresses (λ made. entries_of made ≡ done)
