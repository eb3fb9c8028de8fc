use Rattle.std.proofs.Common.{refl, ap, subst}
use Rattle.std.proofs.lemmas.Result.{err_from_is_err_and}
use Rattle.garde_rules.specs.Inner.{keyed_items, CalledAtEach}
use Rattle.garde_rules.proofs.Calls.{contains_first, contains_later, called_refused, called_more}
use Rattle.garde_rules.proofs.inner.apply_in_order.Goals as goal

pub call-requires : goal.call-requires
call-requires g c κs = (
  (refl, tt),
  λ t r. c.loop-key.invariant.can _ _ t r
      (contains_first _ _ c.component.ensures (ap (keyed_items g.K.PathComponentKind.kind g.K.PathComponentKind.text) c.in-Some.ensures.steps)),
)

pub loop-key-preserved : goal.loop-key-preserved
loop-key-preserved g c =
    let step = ap (keyed_items g.K.PathComponentKind.kind g.K.PathComponentKind.text) c.in-Some.ensures.steps in
    record {
      can = λ x k t r has. c.loop-key.invariant.can x k t r (contains_later _ _ step has);
      rest = λ answer t' r' h. c.loop-key.invariant.rest answer t' r' (called_more (goal.F-post g c.args.f.now) _ _ answer t' r' c.component.ensures step c.in_ok-call.ensures h);
    }

pub returns-in_err-call : goal.returns-in_err-call
returns-in_err-call g c =
    let step = ap (keyed_items g.K.PathComponentKind.kind g.K.PathComponentKind.text) c.in-Some.ensures.steps in
    record {
      calls = subst (λ es. CalledAtEach (goal.F-post g c.args.f.now) (keyed_items g.K.PathComponentKind.kind g.K.PathComponentKind.text es) c.args.trail.now c.args.report.now c.from_residual.result c.call.new.trail c.call.new.report) c.into_iter-key-iterator.ensures.into_iter_gives
          (c.loop-key.invariant.rest _ _ _ (called_refused (goal.F-post g c.args.f.now) _ _ _ _ c.component.ensures step c.in_err-call.ensures (err_from_is_err_and c.from_residual.result c.from_residual.ensures.1).1));
    }
