use Rattle.std.proofs.Common.{refl, rules, arith}
use Rattle.garde_report.specs.Part.{part_of}
use Rattle.garde.specs.Nest.{nest_level, child_visits}
use Rattle.garde.proofs.Visiting.{visited_under, visited_full, visited_stop, visited_then}
use Rattle.garde.proofs.Calls.{visited_component_calls, visited_poppable}
use Rattle.garde.proofs.Nesting.{visited_level, visited_within}
use Rattle.garde.proofs.recursive.+fn-walk-apply+walk.Goals as goal

pub apply-returns-in_err-push : goal.apply-returns-in_err-push
apply-returns-in_err-push g t c = visited_full _ _ refl c.in_err-push.ensures.err c.in_err-push.ensures.full c.from_residual.ensures.0

pub apply-returns : goal.apply-returns
apply-returns g t c = visited_under _ _ c.push.ensures.valid c.in_ok-push.ensures.ok (visited_within _ g.T.Recursive.nest.size _ _ c.requires c.walk-outcome.ensures) c.pop.ensures

pub returns-in_err-visit_own : goal.returns-in_err-visit_own
returns-in_err-visit_own g t c = visited_level (nest_level g.T.Recursive.nest c.args.ctx.now) g.T.Recursive.nest.size _ (visited_stop _ _ c.visit_own.ensures (search rules) c.from_residual.ensures.0)

pub returns-in_err-push : goal.returns-in_err-push
returns-in_err-push g t c = visited_level (nest_level g.T.Recursive.nest c.args.ctx.now) g.T.Recursive.nest.size _ (visited_then _ _ c.visit_own.ensures (search rules)
    (visited_full _ _ refl c.in_err-push.ensures.err c.in_err-push.ensures.full c.from_residual-in_err-push.ensures.0))

pub apply-outcome-requires : goal.apply-outcome-requires
apply-outcome-requires g t c κs = (
  (refl, tt),
  λ x k trail report has.
      let less = g.T.Recursive.nest.smaller c.args.value.now (part_of k) x.now (rw c.children.ensures.children at has) in
      (omega (arith, c.decreases, less), (λ a m. m, (λ a m. m, (λ a m. m, (λ a m. m, (λ a m. m, less)))))),
)

pub pop-requires : goal.pop-requires
pop-requires g t c = visited_poppable _ _ c.in_ok-push.ensures.ok (visited_component_calls _ (g.H.I18n.text c.args.h.now) (child_visits (nest_level g.T.Recursive.nest c.args.ctx.now) g.T.Recursive.nest.size c.args.value.now) _ _ c.apply-outcome.ensures (search rules))

pub returns : goal.returns
returns g t c = visited_level (nest_level g.T.Recursive.nest c.args.ctx.now) g.T.Recursive.nest.size _ (visited_then _ _ c.visit_own.ensures (search rules)
    (visited_under _ _ c.push.ensures.valid (rw c.children.ensures.name at (rw c.key.ensures at c.in_ok-push.ensures.ok))
    (rw c.children.ensures.children at (visited_component_calls _ (g.H.I18n.text c.args.h.now) (child_visits (nest_level g.T.Recursive.nest c.args.ctx.now) g.T.Recursive.nest.size c.args.value.now) (g.T.Children.Inner.place c.children.result.1.now) (g.T.Children.Inner.contents c.children.result.1.now) c.apply-outcome.ensures (search rules))) c.pop.ensures))
