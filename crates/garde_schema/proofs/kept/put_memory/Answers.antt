use Rattle.std.proofs.Common.{◌≡◌, None, Err, subst}
use Rattle.std.specs.Prelude.{OnErr}
use Rattle.garde_report.specs.declared.error.rule_error.RuleError.TheVariants as errors
use Rattle.garde.proofs.Author.{visited_may_allocate}
use Rattle.garde_schema.proofs.kept.put_memory.Goals as goal

pub returns-clause-answer : goal.returns-clause-answer
returns-clause-answer g c =
    let still : c.put.new.self ≡ c.args.trail.now = subst (λ r. OnErr r (c.put.new.self ≡ c.args.trail.now)) c.in-Err.is c.put.ensures.err in
    let same : c.put.new.report ≡ c.args.report.now = subst (λ r. OnErr r (c.put.new.report ≡ c.args.report.now)) c.in-Err.is c.put.ensures.unchanged in
    visited_may_allocate None (Err errors.Memory) c.put.ensures.valid tt tt still same
