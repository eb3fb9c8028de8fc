use Rattle.std.proofs.Common.{◌≡◌, ◌<◌, ◌++◌, ◌∷◌, [], ap, subst, arith, rules}
use Rattle.std.specs.List.{All}
use Rattle.std.proofs.lemmas.List.Elements.{All-head, All-tail}
use Rattle.json.specs.Tree.{depth}
use Rattle.json.specs.Value.{value_view}
use Rattle.garde_schema.specs.Kept.{IsPart, member_views, views_of}
use Rattle.garde_schema.proofs.Copied.{items_less, list_view, members_less, no_more, object_view, one_more}
use Rattle.garde_schema.proofs.kept.copy.+copy.Goals as goal

pub copy_items-loop-item-init : goal.copy_items-loop-item-init
copy_items-loop-item-init t c = (ap (λ vs. views_of vs ++ c.args.items) c.new-values.ensures.items, c.requires)

pub copy_items-copy_value-requires : goal.copy_items-copy_value-requires
copy_items-copy_value-requires t c =
    let less = All-head (λ x. depth x < depth c.args.list.now) _ _ (subst (All (λ x. depth x < depth c.args.list.now)) c.in-Some.ensures.steps c.loop-item.invariant.1) in
    omega (arith, c.decreases, less)

pub copy_items-loop-item-preserved : goal.copy_items-loop-item-preserved
copy_items-loop-item-preserved t c =
    let pushed : c.push.new.self.items ≡ c.loop-item.values.items ++ c.in_ok-value.value ∷ [] = search rules in (
      one_more (λ v. value_view v) c.loop-item.values.items _ c.in_ok-value.value _ c.loop-item.left _ _ pushed c.in_ok-value.ensures c.in-Some.ensures.steps c.loop-item.invariant.0,
      All-tail (λ x. depth x < depth c.args.list.now) _ _ (subst (All (λ x. depth x < depth c.args.list.now)) c.in-Some.ensures.steps c.loop-item.invariant.1),
    )

pub copy_items-returns : goal.copy_items-returns
copy_items-returns t c = no_more (λ v. value_view v) c.loop-item.values.items c.loop-item.left _ c.in_default.ensures.steps.0 c.loop-item.invariant.0

pub copy_members-loop-name-init : goal.copy_members-loop-name-init
copy_members-loop-name-init t c = (ap (λ ms. member_views ms ++ c.args.members) c.new-values.ensures.items, c.requires)

pub copy_members-copy_value-requires : goal.copy_members-copy_value-requires
copy_members-copy_value-requires t c =
    let less = All-head (λ m. depth m.1 < depth c.args.object.now) _ _ (subst (All (λ m. depth m.1 < depth c.args.object.now)) c.in-Some.ensures.steps c.loop-name.invariant.1) in
    omega (arith, c.decreases, less)

pub copy_members-loop-name-preserved : goal.copy_members-loop-name-preserved
copy_members-loop-name-preserved t c =
    let pushed : c.push.new.self.items ≡ c.loop-name.values.items ++ (c.in-Some.name, c.in_ok-value.value) ∷ [] = search rules in (
      one_more (λ m. (m.0.now, value_view m.1)) c.loop-name.values.items _ (c.in-Some.name, c.in_ok-value.value) _ c.loop-name.left _ _ pushed (ap (λ j. (c.in-Some.name.now, j)) c.in_ok-value.ensures) c.in-Some.ensures.steps c.loop-name.invariant.0,
      All-tail (λ m. depth m.1 < depth c.args.object.now) _ _ (subst (All (λ m. depth m.1 < depth c.args.object.now)) c.in-Some.ensures.steps c.loop-name.invariant.1),
    )

pub copy_members-returns : goal.copy_members-returns
copy_members-returns t c = no_more (λ m. (m.0.now, value_view m.1)) c.loop-name.values.items c.loop-name.left _ c.in_default.ensures.steps.0 c.loop-name.invariant.0

pub copy_value-copy_items-requires : goal.copy_value-copy_items-requires
copy_value-copy_items-requires t c = (omega (arith, c.decreases), items_less _ c.args.tree.now (subst (λ p. IsPart p c.args.tree.now) c.in-List.is c.part_of.ensures))

pub copy_value-copy_members-requires : goal.copy_value-copy_members-requires
copy_value-copy_members-requires t c = (omega (arith, c.decreases), members_less _ c.args.tree.now (subst (λ p. IsPart p c.args.tree.now) c.in-Object.is c.part_of.ensures))

pub copy_value-returns-in_ok-copy_items-in-List : goal.copy_value-returns-in_ok-copy_items-in-List
copy_value-returns-in_ok-copy_items-in-List t c =
    list_view c.in_ok-copy_items-in-List.field-0 _ c.args.tree.now c.in_ok-copy_items-in-List.ensures (subst (λ p. IsPart p c.args.tree.now) c.in-List.is c.part_of.ensures)

pub copy_value-returns-in_ok-copy_members-in-Object : goal.copy_value-returns-in_ok-copy_members-in-Object
copy_value-returns-in_ok-copy_members-in-Object t c =
    object_view c.in_ok-copy_members-in-Object.field-0 _ c.args.tree.now c.in_ok-copy_members-in-Object.ensures (subst (λ p. IsPart p c.args.tree.now) c.in-Object.is c.part_of.ensures)
