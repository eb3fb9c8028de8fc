use Rattle.std.proofs.Common.{◌+◌, ◌∙◌, get_or, sym, ap, true, false, append-nil}
use Rattle.garde_places.proofs.Scanning.{past_within, scanned}
use Rattle.garde_places.proofs.scan.scan.Goals.{then-begins+in_ok-push, else-begins}
use Rattle.garde_places.proofs.scan.scan.Goals as goal

pub loop-byte-preserved : goal.loop-byte-preserved
loop-byte-preserved c =
    let before = c.loop-byte.invariant in
    let text = c.args.text.now in
    let same = c.as_bytes-byte-items.ensures.value in
    let byte = get_or c.as_bytes-byte-items.result.now c.loop-byte.byte-index 0 in
    let within = past_within c.loop-byte.here _ byte (c.loop-byte.byte-index + 1) c.past-here.ensures before.line before.column in
    let begins = sym c.turn-begins.ensures.0 in
    record {
      line = within.0;
      column = within.1;
      rest =
          elim c.if-begins.branch [
            | then-begins+in_ok-push w ↦ scanned true c.loop-byte.mode _ c.loop-byte.here _ c.loop-byte.found.items _ _ text c.loop-byte.byte-index same c.loop-byte-test.true (begins ∙ w.if-begins.true) c.turn-begins.ensures.1 c.past-here.ensures (ap (λ v. v.items) w.found-is ∙ w.in_ok-push.ensures.items)
            | else-begins w ↦ scanned false c.loop-byte.mode _ c.loop-byte.here _ c.loop-byte.found.items _ _ text c.loop-byte.byte-index same c.loop-byte-test.true (begins ∙ w.if-begins.false) c.turn-begins.ensures.1 c.past-here.ensures (ap (λ v. v.items) w.found-is ∙ sym (append-nil c.loop-byte.found.items))
          ]
          ∙ before.rest;
    }
