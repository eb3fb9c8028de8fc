use Rattle.std.proofs.Common.{◌≡◌, ◌<◌, ◌^◌, [], ◌++◌, ap, take, length, length-append, rules, arith}
use Rattle.std.proofs.lemmas.List.{length-take-le}
use Rattle.garde_check.proofs.Cuts.{cut_none, cut_longer, cut_again}
use Rattle.garde_check.proofs.Runs.{gave_all}
use Rattle.std.proofs.KnownBytes.{Consumes-nil, Consumes-trans}
use Rattle.garde_check.proofs.running.take_lines.Goals as goal

pub loop-lines-init : goal.loop-lines-init
loop-lines-init g c = (
  ([], Consumes-nil _, rw (c.new-lines.ensures.users, c.new-lines.ensures.rest) (cut_none [] [])),
  c.requires,
)

pub returns-in-Ok-eq0-clause-ok : goal.returns-in-Ok-eq0-clause-ok
returns-in-Ok-eq0-clause-ok g c =
    let so = c.loop-lines.invariant.0 in
    let told = c.in-Ok-eq0.ensures {u = tt} in
    let none = ap (λ n. take n c.take.new.part) c.in-Ok-eq0.field-0-test in
    (so.0, gave_all _ _ _ so.0 _ so.1 told.bytes none (told.end c.in-Ok-eq0.field-0-test), so.2)

pub loop-lines-smaller : goal.loop-lines-smaller
loop-lines-smaller g c =
    let part = take c.in-Ok.n c.take.new.part in
    let old = c.loop-lines.lines in
    let new = c.add.new.self in
    let cut = c.in_ok-add-in-Ok.ensures {u = tt} in
    let some : length part ≡ c.in-Ok.n = length-take-le c.in-Ok.n c.take.new.part (c.in-Ok.ensures {u = tt}).bound in
    let longer = length-append old.rest.items part in
    let few : length new.users.items < 2 ^ 64 = let is = new.users.ok.0 in let within = new.users.ok.1 in let small = new.users.small in omega arith in
    let short : length new.rest.items < 2 ^ 64 = let is = new.rest.ok.0 in let within = new.rest.ok.1 in let small = new.rest.small in omega arith in
    let grows = cut.grows in
    let not_none = c.in-Ok.n-test in
    omega (arith, longer, grows, some, few, short, not_none)

pub loop-lines-preserved : goal.loop-lines-preserved
loop-lines-preserved g c =
    let so = c.loop-lines.invariant.0 in
    let part = take c.in-Ok.n c.take.new.part in
    let old = c.loop-lines.lines in
    let new = c.add.new.self in
    let longer = cut_longer so.0 old.rest.items part [] old.users.items so.2 in
    let cut = cut_again (so.0 ++ part) (old.rest.items ++ part) new.rest.items [] old.users.items new.users.items longer (c.in_ok-add-in-Ok.ensures {u = tt}) in
    ((so.0 ++ part, Consumes-trans _ _ _ so.0 part so.1 (c.in-Ok.ensures {u = tt}).bytes, cut), search rules)
