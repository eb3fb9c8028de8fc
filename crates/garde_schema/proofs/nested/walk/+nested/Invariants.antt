use Rattle.std.proofs.Common.{◌≡◌, ◌<◌, ◌+◌, ◌*◌, List, Result, length}
use Rattle.std.specs.List.{All}
use Rattle.std.specs.declared.alloc.AllocError.{AllocError}
use Rattle.json.specs.Tree.{depth}
use Rattle.garde_report.specs.Report.{Entry}
use Rattle.garde.specs.Visits.{Visited}
use Rattle.garde_schema.specs.Forms.{Sound}
use Rattle.garde_schema.specs.Lists.{all_values, each_item}
use Rattle.garde_schema.specs.Nested.{inner_value, inner_visits, Kept}
use Rattle.garde_schema.proofs.Lists.{items_left, values_from}
use Rattle.garde_schema.proofs.nested.walk.+nested.Given as goal

-- each call is of a smaller one: from an object to its list, to the items, to an item, to the object that it is
abbrev pub decreases-read_level : goal.decreases-read_level
decreases-read_level g l = 4 * depth (g.L.Level.json l.tree.now) + 3

abbrev pub decreases-read_below : goal.decreases-read_below
decreases-read_below g l = 4 * depth (g.L.Level.json l.object.now) + 2

abbrev pub decreases-read_items : goal.decreases-read_items
decreases-read_items g l = 4 * depth (g.L.Level.json l.object.now) + 1

abbrev pub decreases-read_item : goal.decreases-read_item
decreases-read_item g l = 4 * depth (g.L.Level.json l.item.now) + 4

-- what is told, read and known of the items that are left makes that of all, and each of them nests less deep than the object
abbrev pub invariant-read_items-loop-item : goal.invariant-read_items-loop-item
invariant-read_items-loop-item g l =
    let parts = g.L.Level.parts l.level in
    let child = inner_visits parts (g.L.Level.json l.object) in
    let value = inner_value g.T.FromNested.builds parts (g.L.Level.json l.object) in
    let keeps = Kept parts.keeps g.T.FromNested.parts_of in
    ((after : g.row.L-Trail.Denot) (new : List Entry) (answer : Result (Unit {0}) AllocError)
    → Visited (items_left child l.index (g.L.Level.jsons l.left)) (g.L.Level.text l.level) (g.L.Level.trace l.trail) (g.L.Level.trace after) l.report new answer
    → Visited (each_item child (g.L.Level.jsons l.initial.left)) (g.L.Level.text l.level) (g.L.Level.trace l.initial.trail) (g.L.Level.trace after) l.initial.report new answer)
    × (values_from value l.values (g.L.Level.jsons l.left) ≡ all_values value (g.L.Level.jsons l.initial.left))
    × (All (λ x. Sound (child x) keeps (value x)) (g.L.Level.jsons l.left)
    → All (λ x. Sound (child x) keeps (value x)) (g.L.Level.jsons l.initial.left))
    × (l.index + length (g.L.Level.jsons l.left) ≡ length (g.L.Level.jsons l.initial.left))
    × All (λ x. depth x < depth (g.L.Level.json l.object)) (g.L.Level.jsons l.left)

abbrev pub decreases-read_items-loop-item : goal.decreases-read_items-loop-item
decreases-read_items-loop-item g l = length (g.L.Level.jsons l.left)
