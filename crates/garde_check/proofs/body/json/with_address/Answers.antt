use Rattle.std.proofs.Common.{rules, ◌≡◌, IsOkAnd, sym, subst}
use Rattle.std.specs.BTreeMap.{insert_entry}
use Rattle.std.specs.Cmp.Lexicographic.{slice_cmp}
use Rattle.std.specs.Ordering.{nat_cmp}
use Rattle.garde_check.specs.Body.{entries_of}
use Rattle.garde_check.proofs.Members.{entries_more}
use Rattle.garde_check.proofs.body.json.with_address.Goals as goal

pub returns : goal.returns
returns c =
    let name = c.args.name.now in
    let text = c.args.text.now in
    subst (λ o. IsOkAnd o (λ made. entries_of c.insert.new.self ≡ insert_entry (slice_cmp nat_cmp) (entries_of made) name text)) (sym c.in_ok-addresses.was)
    (entries_more c.in_ok-addresses.addresses.entries c.insert.new.self.entries _ _ name text c.in_ok-insert.ensures.entries (search rules) (search rules))
