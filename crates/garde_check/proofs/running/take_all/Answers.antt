use Rattle.std.proofs.Common.{ap, take, rules}
use Rattle.garde_check.proofs.Runs.{gave_all}
use Rattle.std.proofs.KnownBytes.{Consumes-trans}
use Rattle.garde_check.proofs.running.take_all.Goals as goal

pub returns-in-Ok-eq0-clause-ok : goal.returns-in-Ok-eq0-clause-ok
returns-in-Ok-eq0-clause-ok g c =
    let told = c.in-Ok-eq0.ensures {u = tt} in
    let none = ap (λ n. take n c.take.new.part) c.in-Ok-eq0.field-0-test in
    gave_all _ _ _ c.loop-bytes.bytes.items _ c.loop-bytes.invariant.0 told.bytes none (told.end c.in-Ok-eq0.field-0-test)

pub loop-bytes-preserved : goal.loop-bytes-preserved
loop-bytes-preserved g c =
    let part = take c.in-Ok.n c.take.new.part in
    let longer = (c.in_ok-extend_from_slice-in-Ok.ensures {u = tt}).items in
    (rw longer (Consumes-trans _ _ _ c.loop-bytes.bytes.items part c.loop-bytes.invariant.0 (c.in-Ok.ensures {u = tt}).bytes), search rules)
