use Rattle.std.proofs.Common.{arith}
use Rattle.json.specs.Reads.{token_of}
use Rattle.garde_tape.proofs.Nesting.{behind_first, open_before}
use Rattle.garde_tape.proofs.fault.too_deep_at.Goals as goal

pub returns-then-depth-gt-MAX_DEPTH : goal.returns-then-depth-gt-MAX_DEPTH
returns-then-depth-gt-MAX_DEPTH c _ =
    let left = behind_first c.loop-token.depth c.depth_behind-depth.result _ (token_of c.in-Some.token) c.next.new.self c.loop-token.reader c.in-Some.ensures.value c.depth_behind-depth.ensures c.loop-token.invariant.left in
    omega (arith, left, open_before c.depth_behind-depth.result c.next.new.self, c.if-depth-gt-MAX_DEPTH.true)

pub loop-token-preserved : goal.loop-token-preserved
loop-token-preserved c = record {
  shallow = omega (arith, c.if-depth-gt-MAX_DEPTH.false);
  left = behind_first c.loop-token.depth c.depth_behind-depth.result _ (token_of c.in-Some.token) c.next.new.self c.loop-token.reader c.in-Some.ensures.value c.depth_behind-depth.ensures c.loop-token.invariant.left;
}
