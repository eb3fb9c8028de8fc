use Rattle.std.proofs.Common.{rules, ◌≡◌, ◌<◌, ◌^◌, ◌∙◌, refl, ap, sym, subst, arith, length, Option, IfOk}
use Rattle.json.specs.Json.{Json}
use Rattle.json.specs.Tree.{depth}
use Rattle.garde_report.specs.Part.{index_part, key_part}
use Rattle.garde.specs.Visits.{Visits}
use Rattle.garde.proofs.Author.{visited_level, visited_within}
use Rattle.garde_schema.specs.Forms.{Sound}
use Rattle.garde_schema.specs.Lists.{with_last}
use Rattle.garde_schema.specs.Nested.{level_visits, level_value, inner_value, inner_visits, Kept, Parts}
use Rattle.garde_schema.proofs.Lemmas.{on_ok, told_under, told_under_full, read_stop, read_and}
use Rattle.garde_schema.proofs.Lists.{item_kept, item_refused, item_then, item_stop, item_end, items_first, values_begin, values_next, values_end, all_next, all_end, sound_items}
use Rattle.garde_schema.proofs.Recursion.{below_is, below_less, below_none, below_some, child_value_is, first_less, if_some_is, made_same, recursive_value_is, rest_less, sound_child, sound_made}
use Rattle.garde_schema.proofs.nested.walk.+nested.Given as given
use Rattle.garde_schema.proofs.nested.walk.+nested.Goals as goal

abbrev Object : given.Over → Type 1
Object g = Parts g.row.T-Own.Denot

abbrev keeps : (g : given.Over) → Object g → g.row.T.Denot → Type 0
keeps g parts = Kept parts.keeps g.T.FromNested.parts_of

abbrev asks : (g : given.Over) → Object g → (Json → Visits) → Json → Visits
asks g parts = level_visits parts.name parts.first parts.last

abbrev reads : (g : given.Over) → Object g → (Json → Option g.row.T.Denot) → Json → Option g.row.T.Denot
reads g parts = level_value parts.name parts.own g.T.FromNested.builds

-- ---- the list

pub read_below-returns-in_default-clause-answer : goal.read_below-returns-in_default-clause-answer
read_below-returns-in_default-clause-answer g t c = below_none (g.L.Level.parts c.args.level.now).name (inner_visits (g.L.Level.parts c.args.level.now) (g.L.Level.json c.args.object.now)) (λ items. g.L.Level.jsons items) _ c.in_default.is c.requires.found

pub read_below-returns-in_err-enter-clause-answer : goal.read_below-returns-in_err-enter-clause-answer
read_below-returns-in_err-enter-clause-answer g t c = below_some (g.L.Level.parts c.args.level.now).name (inner_visits (g.L.Level.parts c.args.level.now) (g.L.Level.json c.args.object.now)) (λ items. g.L.Level.jsons items) _ c.in-Some.is c.requires.found
    (told_under_full (key_part (g.L.Level.parts c.args.level.now).name) _ c.from_residual.result refl c.in_err-enter.ensures.err c.in_err-enter.ensures.full c.from_residual.ensures.0)

pub read_below-read_items-values-requires : goal.read_below-read_items-values-requires
read_below-read_items-values-requires g t c κs within = (
  omega (arith, c.decreases),
  (
    within.0,
    (
      within.1.0,
      (
        within.1.1.0,
        (
          within.1.1.1.0,
          (
            within.1.1.1.1.0,
            (
              within.1.1.1.1.1,
              (
                if_some_is (λ items. length (g.L.Level.jsons items) < 2 ^ 64) c.in-Some.is c.requires.bound,
                below_less (g.L.Level.parts c.args.level.now).name (g.L.Level.json c.args.object.now) _ (below_is (λ items. g.L.Level.jsons items) c.in-Some.is c.requires.found),
              ),
            ),
          ),
        ),
      ),
    ),
  ),
)

pub read_below-returns-clause-answer : goal.read_below-returns-clause-answer
read_below-returns-clause-answer g t c = below_some (g.L.Level.parts c.args.level.now).name (inner_visits (g.L.Level.parts c.args.level.now) (g.L.Level.json c.args.object.now)) (λ items. g.L.Level.jsons items) _ c.in-Some.is c.requires.found
    (told_under (key_part (g.L.Level.parts c.args.level.now).name) _ refl c.enter.ensures.valid c.in_ok-enter.ensures.ok c.read_items-values.ensures.answer c.leave.ensures)

-- ---- an item

pub read_item-returns-in_err-enter_item-clause-answer : goal.read_item-returns-in_err-enter_item-clause-answer
read_item-returns-in_err-enter_item-clause-answer g t c =
    told_under_full (index_part c.args.index) _ c.from_residual.result refl c.in_err-enter_item.ensures.err c.in_err-enter_item.ensures.full c.from_residual.ensures.0

pub read_item-read_level-value-requires : goal.read_item-read_level-value-requires
read_item-read_level-value-requires g t c κs within = (
  omega (arith, c.decreases, c.requires),
  (within.0, (within.1.0, (within.1.1.0, (within.1.1.1.0, (within.1.1.1.1.0, within.1.1.1.1.1))))),
)

pub read_item-returns-in_err-value-clause-answer : goal.read_item-returns-in_err-value-clause-answer
read_item-returns-in_err-value-clause-answer g t c = item_refused (index_part c.args.index) (inner_visits (g.L.Level.parts c.args.level.now) (g.L.Level.json c.args.object.now) (g.L.Level.json c.args.item.now)) c.read_level-value.result c.from_residual-in_err-value.result
    (told_under (index_part c.args.index) _ refl c.enter_item.ensures.valid c.in_ok-enter_item.ensures.ok
    (visited_within (asks g (g.L.Level.parts c.args.level.now)) depth (g.L.Level.json c.args.object.now) (g.L.Level.json c.args.item.now) c.requires c.read_level-value.ensures.answer) c.leave.ensures)
    (search rules) c.from_residual-in_err-value.ensures.0

pub read_item-returns-clause-answer : goal.read_item-returns-clause-answer
read_item-returns-clause-answer g t c = item_kept (index_part c.args.index) (inner_visits (g.L.Level.parts c.args.level.now) (g.L.Level.json c.args.object.now) (g.L.Level.json c.args.item.now)) c.read_level-value.result c.add.result
    (told_under (index_part c.args.index) _ refl c.enter_item.ensures.valid c.in_ok-enter_item.ensures.ok
    (visited_within (asks g (g.L.Level.parts c.args.level.now)) depth (g.L.Level.json c.args.object.now) (g.L.Level.json c.args.item.now) c.requires c.read_level-value.ensures.answer) c.leave.ensures)
    (search rules)

pub read_item-returns-clause-value : goal.read_item-returns-clause-value
read_item-returns-clause-value g t c = subst (λ z. IfOk c.add.result (λ out. out ≡ with_last c.args.values z))
    (c.in_ok-value.ensures.value ∙ sym (child_value_is (reads g (g.L.Level.parts c.args.level.now)) depth (g.L.Level.json c.args.object.now) (g.L.Level.json c.args.item.now) c.requires)) c.add.ensures

pub read_item-returns-clause-sound : goal.read_item-returns-clause-sound
read_item-returns-clause-sound g t c = on_ok _ (sound_child (asks g (g.L.Level.parts c.args.level.now)) (reads g (g.L.Level.parts c.args.level.now)) depth (keeps g (g.L.Level.parts c.args.level.now))
    (g.L.Level.json c.args.object.now) (g.L.Level.json c.args.item.now) c.requires c.in_ok-value.ensures.sound)

-- ---- the items

pub read_items-loop-item-init : goal.read_items-loop-item-init
read_items-loop-item-init g t c = (
  λ after new answer told. items_first (inner_visits (g.L.Level.parts c.args.level.now) (g.L.Level.json c.args.object.now)) (g.L.Level.jsons c.args.items) told,
  values_begin (inner_value g.T.FromNested.builds (g.L.Level.parts c.args.level.now) (g.L.Level.json c.args.object.now)) c.new.result (g.L.Level.jsons c.args.items) c.new.ensures,
  λ all. all,
  omega arith,
  c.requires.smaller,
)

pub read_items-read_item-requires : goal.read_items-read_item-requires
read_items-read_item-requires g t c κs within =
    let less = first_less (λ x. depth x < depth (g.L.Level.json c.args.object.now)) c.in-Some.ensures c.loop-item.invariant.4 in
    (omega (arith, c.decreases, less), (within.0, (within.1.0, (within.1.1.0, (within.1.1.1.0, (within.1.1.1.1.0, (within.1.1.1.1.1, less)))))))

pub read_items-returns-in_err-values-clause-answer : goal.read_items-returns-in_err-values-clause-answer
read_items-returns-in_err-values-clause-answer g t c = c.loop-item.invariant.0 _ _ _ (item_stop (inner_visits (g.L.Level.parts c.args.level.now) (g.L.Level.json c.args.object.now)) c.loop-item.index (g.L.Level.jsons c.loop-item.left) _ _ _ c.read_item.result c.from_residual.result
    c.in-Some.ensures refl c.read_item.ensures.answer (search rules) c.from_residual.ensures.0)

pub read_items-overflow_add-index : goal.read_items-overflow_add-index
read_items-overflow_add-index g t c = record { fits = omega (arith, c.requires.bound, c.loop-item.invariant.3, ap length c.in-Some.ensures) }

pub read_items-loop-item-smaller : goal.read_items-loop-item-smaller
read_items-loop-item-smaller g t c = omega (arith, ap length c.in-Some.ensures)

pub read_items-loop-item-preserved : goal.read_items-loop-item-preserved
read_items-loop-item-preserved g t c =
    let parts = g.L.Level.parts c.args.level.now in
    let object = g.L.Level.json c.args.object.now in
    let child = inner_visits parts object in
    let value = inner_value g.T.FromNested.builds parts object in
    let sound = λ (x : Json). Sound (child x) (keeps g parts) (value x) in (
      λ after new answer rest. c.loop-item.invariant.0 after new answer (item_then child c.loop-item.index (g.L.Level.jsons c.loop-item.left) _ _ _ c.read_item.result c.in-Some.ensures refl refl c.read_item.ensures.answer (search rules) rest),
      values_next value c.loop-item.values _ (g.L.Level.jsons c.loop-item.left) _ _ c.in-Some.ensures c.in_ok-values.ensures.value ∙ c.loop-item.invariant.1,
      λ all. c.loop-item.invariant.2 (all_next sound (g.L.Level.jsons c.loop-item.left) _ _ c.in-Some.ensures c.in_ok-values.ensures.sound all),
      omega (arith, c.loop-item.invariant.3, ap length c.in-Some.ensures),
      rest_less (λ x. depth x < depth object) c.in-Some.ensures c.loop-item.invariant.4,
    )

pub read_items-returns-clause-answer : goal.read_items-returns-clause-answer
read_items-returns-clause-answer g t c = c.loop-item.invariant.0 _ _ _ (item_end (inner_visits (g.L.Level.parts c.args.level.now) (g.L.Level.json c.args.object.now)) c.loop-item.index (g.L.Level.jsons c.loop-item.left) c.in_default.ensures.0)

pub read_items-returns-clause-value : goal.read_items-returns-clause-value
read_items-returns-clause-value g t c = values_end (inner_value g.T.FromNested.builds (g.L.Level.parts c.args.level.now) (g.L.Level.json c.args.object.now)) c.loop-item.values (g.L.Level.jsons c.loop-item.left) c.in_default.ensures.0 c.loop-item.invariant.1

pub read_items-returns-clause-sound : goal.read_items-returns-clause-sound
read_items-returns-clause-sound g t c =
    let parts = g.L.Level.parts c.args.level.now in
    let object = g.L.Level.json c.args.object.now in
    let child = inner_visits parts object in
    let value = inner_value g.T.FromNested.builds parts object in
    let sound = λ (x : Json). Sound (child x) (keeps g parts) (value x) in
    sound_items child (keeps g parts) value (g.L.Level.jsons c.args.items) (c.loop-item.invariant.2 (all_end sound (g.L.Level.jsons c.loop-item.left) c.in_default.ensures.0))

-- ---- an object

pub read_level-returns-in_err-begun-clause-answer : goal.read_level-returns-in_err-begun-clause-answer
read_level-returns-in_err-begun-clause-answer g t c = visited_level (asks g (g.L.Level.parts c.args.level.now)) depth (g.L.Level.json c.args.tree.now)
    (read_stop _ _ c.begin.result c.from_residual.result c.begin.ensures.answer (search rules) c.from_residual.ensures.0)

pub read_level-read_below-requires : goal.read_level-read_below-requires
read_level-read_below-requires g t c κs within = (
  omega (arith, c.decreases),
  (within.0, (within.1.0, (within.1.1.0, (within.1.1.1.0, (within.1.1.1.1.0, (within.1.1.1.1.1, (c.in_ok-begun.ensures.below, c.in_ok-begun.ensures.bound))))))),
)

pub read_level-returns-in_err-values-clause-answer : goal.read_level-returns-in_err-values-clause-answer
read_level-returns-in_err-values-clause-answer g t c = visited_level (asks g (g.L.Level.parts c.args.level.now)) depth (g.L.Level.json c.args.tree.now)
    (read_and _ _ c.begin.result c.begin.ensures.answer (search rules)
    (read_stop _ _ c.read_below.result c.from_residual-in_err-values.result c.read_below.ensures.answer (search rules) c.from_residual-in_err-values.ensures.0) refl)

pub read_level-returns-clause-answer : goal.read_level-returns-clause-answer
read_level-returns-clause-answer g t c = visited_level (asks g (g.L.Level.parts c.args.level.now)) depth (g.L.Level.json c.args.tree.now)
    (read_and _ _ c.begin.result c.begin.ensures.answer (search rules)
    (read_and _ _ c.read_below.result c.read_below.ensures.answer (search rules) c.end-told.ensures c.with.ensures.answer) refl)

pub read_level-returns-clause-value : goal.read_level-returns-clause-value
read_level-returns-clause-value g t c = subst (λ z. IfOk c.with.result (λ out. out ≡ z))
    (c.made.ensures ∙ made_same g.T.FromNested.builds c.in_ok-begun.ensures.own c.in_ok-values.ensures.value ∙ sym (recursive_value_is (reads g (g.L.Level.parts c.args.level.now)) depth (g.L.Level.json c.args.tree.now))) c.with.ensures.value

pub read_level-returns-clause-sound : goal.read_level-returns-clause-sound
read_level-returns-clause-sound g t c =
    let parts = g.L.Level.parts c.args.level.now in
    on_ok _ (sound_made parts.keeps g.T.FromNested.parts_of g.T.FromNested.builds g.met.T.FromNested.kept
    parts.name parts.first parts.last parts.own (g.L.Level.json c.args.tree.now) c.in_ok-begun.ensures.sound c.in_ok-values.ensures.sound)
