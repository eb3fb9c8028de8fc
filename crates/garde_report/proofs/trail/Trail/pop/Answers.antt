use Rattle.std.proofs.Common.{length, sym, arith}
use Rattle.std.proofs.lemmas.Grind.{common_steps}
use Rattle.garde_report.specs.Part.{part_of}
use Rattle.garde_report.specs.Trace.{stack_paths}
use Rattle.garde_report.proofs.Trace.{ArePathsOf-fewer, ArePathsOf-without_last, left_of}
use Rattle.garde_report.proofs.trail.Trail.pop.Goals as goal

pub invariant_of-self : goal.invariant_of-self
invariant_of-self c = record {
  counted = c.self.invariant.counted;
  front = grind (arith, common_steps, c.self.invariant.front, c.forget_last.ensures);
  paths = ArePathsOf-without_last part_of c.self.inside.components c.pop.new.self (stack_paths c.self.inside.paths) (stack_paths c.forget_last.new.paths) c.pop.ensures c.forget_last.ensures c.self.invariant.paths (grind (arith, c.if-self-len.true, c.self.invariant.front, c.len.ensures));
}

pub invariant_of-self-else-self-len : goal.invariant_of-self-else-self-len
invariant_of-self-else-self-len c = record {
  counted = c.self.invariant.counted;
  front = c.self.invariant.front;
  paths = ArePathsOf-fewer part_of c.self.inside.components c.pop.new.self (stack_paths c.self.inside.paths) c.pop.ensures c.self.invariant.paths (grind (arith, c.if-self-len.false, c.self.invariant.front, c.len.ensures));
}

pub returns-then-self-len : goal.returns-then-self-len
returns-then-self-len c = left_of part_of c.self.inside.components c.pop.new.self (length (stack_paths c.self.inside.paths)) (length (stack_paths c.forget_last.new.paths)) c.self.inside.made c.self.inside.most c.args.self.now c.pop.ensures (grind (arith, common_steps, c.if-self-len.true, c.self.invariant.front, c.len.ensures, c.pop.ensures, c.forget_last.ensures, c.self.invariant.paths.within)) (sym c.self.view_is)

pub returns-else-self-len : goal.returns-else-self-len
returns-else-self-len c = left_of part_of c.self.inside.components c.pop.new.self (length (stack_paths c.self.inside.paths)) (length (stack_paths c.self.inside.paths)) c.self.inside.made c.self.inside.most c.args.self.now c.pop.ensures (grind (arith, common_steps, c.if-self-len.false, c.self.invariant.front, c.len.ensures, c.pop.ensures)) (sym c.self.view_is)
