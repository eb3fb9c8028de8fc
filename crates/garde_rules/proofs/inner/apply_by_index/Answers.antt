use Rattle.std.proofs.Common.{◌≡◌, ◌+◌, ◌∷◌, Some, Ok, Err, refl, sym, ap, ◌∙◌, subst, arith}
use Rattle.std.proofs.lemmas.Result.{err_from_is_err_and}
use Rattle.garde_rules.specs.Inner.{Called, CalledAtEach}
use Rattle.garde_rules.proofs.Calls.{left_step, is_there, called_refused, called_more, contains_component_items}
use Rattle.garde_rules.proofs.inner.apply_by_index.Goals.{in-Some+in_ok-call, in_default}
use Rattle.garde_rules.proofs.inner.apply_by_index.Goals as goal

pub call-requires : goal.call-requires
call-requires g c k = ((refl, tt), λ t r. c.requires _ _ t r (contains_component_items (g.C.Inner.place c.args.field.now) (g.C.Inner.contents c.args.field.now) c.loop-index.index _ _ c.in-Some.ensures c.component.ensures))

pub returns-in_err-call : goal.returns-in_err-call
returns-in_err-call g c =
    record {
      calls = c.loop-index.invariant _ _ _
          (called_refused (goal.F-post g c.args.f.now) _ _ _ _ c.component.ensures
          (left_step (g.C.Inner.place c.args.field.now) (g.C.Inner.contents c.args.field.now) c.loop-index.index c.in-Some.item.now (sym c.in-Some.ensures))
          c.in_err-call.ensures (err_from_is_err_and c.from_residual.result c.from_residual.ensures.1).1);
    }

pub loop-index-preserved : goal.loop-index-preserved
loop-index-preserved g c = elim c.match-item.branch [
  | in-Some+in_ok-call w ↦ λ answer t' r' h. c.loop-index.invariant answer t' r'
      (called_more (goal.F-post g c.args.f.now) _ _ answer t' r' w.component.ensures
      (left_step (g.C.Inner.place c.args.field.now) (g.C.Inner.contents c.args.field.now) c.loop-index.index w.in-Some.item.now (sym w.in-Some.ensures))
      w.in_ok-call.ensures (rw w.trail-is at rw w.report-is at h))
  | in_default w ↦ absurd (is_there (g.C.Inner.contents c.args.field.now) c.loop-index.index (omega (arith, c.loop-index-test.true, c.count-index-end.ensures)) w.in_default.ensures)
]
