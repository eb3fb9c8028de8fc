use Rattle.std.proofs.Common.{◌≡◌, ◌+◌, ◌++◌, subst}
use Rattle.garde_check.specs.Users.{IsCut}
use Rattle.garde_check.proofs.Cuts.{cut_added}
use Rattle.garde_check.proofs.lines.Lines.add.Goals as goal

pub returns : goal.returns
returns c =
    let rest = c.args.self.now.rest.items in
    let old = c.args.self.now.users.items in
    let front = c.split_at.result.0.now in
    let back = c.split_at.result.1.now in
    let new = c.cut_rest.new.self.users.items in
    let left = c.cut_rest.new.self.rest.items in
    let longer : c.extend_from_slice-2.new.self.items ≡ rest ++ front = (c.in_ok-extend_from_slice.ensures {u = tt}).items in
    let cut = subst (λ t. IsCut t old new left) longer (c.in_ok-cut_rest.ensures {u = tt}) in
    rw (c.in_ok-extend_from_slice-2.ensures {u = tt}).items
    (cut_added rest c.args.part.now front back left (c.in-Some.feed + 1) old new c.split_at.ensures.front c.split_at.ensures.back cut)
