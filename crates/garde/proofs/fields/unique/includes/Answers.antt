use Rattle.std.proofs.Common.{refl, ap, sym, ◌∙◌, take_all}
use Rattle.std.proofs.lemmas.List.Folds.{list_any_more, list_any_at}
use Rattle.std.specs.List.{list_any}
use Rattle.garde.specs.Laws.{neither_part}
use Rattle.garde.proofs.fields.unique.includes.Goals as goal

pub loop-other-init : goal.loop-other-init
loop-other-init g c = refl

pub loop-other-preserved : goal.loop-other-preserved
loop-other-preserved g c =
    list_any_more _ c.args.items.now _ c.other-item.result c.loop-other-test.true
    ∙ (neither_part _ _).1 (c.loop-other.invariant, cc)

pub returns-then-are_same : goal.returns-then-are_same
returns-then-are_same g c = sym (list_any_at _ c.args.items.now _ c.other-item.result c.loop-other-test.true cc)

pub returns : goal.returns
returns g c = sym (ap (list_any _) (sym (take_all _ _ c.loop-other-test.false)) ∙ c.loop-other.invariant)
