use Rattle.std.proofs.Common.{rules, ◌≡◌, []}
use Rattle.garde_json.proofs.Listed.{sole_left}
use Rattle.garde_json.proofs.form.sole_member.Goals as goal

-- the first member is the last one, and has the name
pub returns : goal.returns
returns c =
    let none : c.next.new.self ≡ [] = search rules in
    let same : c.in_ok-only.only.now ≡ c.args.name.now = search rules in
    sole_left _ c.in_ok-only.value c.args.name.now c.in_ok-only.only.now c.in_ok-members.members c.next.new.self
    c.in_ok-members.ensures.value c.in_ok-only.ensures.steps none same
