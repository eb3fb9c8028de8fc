use Rattle.std.proofs.Common.{sym, subst, true, false, arith, rules}
use Rattle.std.proofs.lemmas.Result.{on_ok_weaker}
use Rattle.garde_library.specs.Nodes.{Adds, a_flag, nothing}
use Rattle.garde_library.proofs.Growing.{value_added, member_added, list_smaller, object_smaller, list_added, object_added, plain_added, flag_marks, null_marks}
use Rattle.garde_library.proofs.walk.Walk.+tree.Goals as goal

pub push_items-loop-item-preserved : goal.push_items-loop-item-preserved
push_items-loop-item-preserved t c =
    let s = c.args.self.now in
    let now = c.loop-item.self in
    let after = c.push_tree.new.self in
    value_added c.in-Some.item c.loop-item.items c.next.new.self c.args.items s.body now.body after.body s.nodes.items now.nodes.items after.nodes.items s.room.items now.room.items after.room.items
    c.in-Some.ensures.steps c.loop-item.invariant c.in_ok-push_tree.ensures.ok c.push_tree.ensures.body

pub push_members-loop-name-preserved : goal.push_members-loop-name-preserved
push_members-loop-name-preserved t c =
    let s = c.args.self.now in
    let now = c.loop-name.self in
    let named = c.push_text.new.self in
    let after = c.push_tree.new.self in
    member_added (c.in-Some.name.now, c.in-Some.value) c.loop-name.members c.next.new.self c.args.members s.body now.body named.body after.body
    s.nodes.items now.nodes.items named.nodes.items after.nodes.items s.room.items now.room.items named.room.items after.room.items
    c.in-Some.ensures.steps c.loop-name.invariant c.in_ok-push_text.ensures.ok c.push_text.ensures.body c.in_ok-push_tree.ensures.ok c.push_tree.ensures.body

pub push_tree-push_items-requires : goal.push_tree-push_items-requires
push_tree-push_items-requires t c = (omega (arith, c.decreases, list_smaller c.args.tree.now c.in-Some-items.items c.in-Some-items.ensures.value), tt)

pub push_tree-returns-in-Some-items-clause-ok : goal.push_tree-returns-in-Some-items-clause-ok
push_tree-returns-in-Some-items-clause-ok t c =
    let s = c.args.self.now in
    let listed = c.push_plain.new.self in
    let after = c.push_items.new.self in
    on_ok_weaker c.push_items.result
    (λ adds. list_added c.args.tree.now c.in-Some-items.items c.count_items-count.result s.body listed.body s.nodes.items listed.nodes.items after.nodes.items s.room.items listed.room.items after.room.items
    c.in-Some-items.ensures.value c.count_items-count.ensures c.in_ok-push_plain.ensures.ok c.push_plain.ensures.body c.push_plain.ensures.room adds)
    c.push_items.ensures.ok

pub push_tree-push_members-requires : goal.push_tree-push_members-requires
push_tree-push_members-requires t c = (omega (arith, c.decreases, object_smaller c.args.tree.now c.in-Some-members.members c.in-Some-members.ensures.value), tt)

pub push_tree-returns-in-Some-members-clause-ok : goal.push_tree-returns-in-Some-members-clause-ok
push_tree-returns-in-Some-members-clause-ok t c =
    let s = c.args.self.now in
    let listed = c.push_plain-in-Some-members.new.self in
    let after = c.push_members.new.self in
    on_ok_weaker c.push_members.result
    (λ adds. object_added c.args.tree.now c.in-Some-members.members c.count_members-count.result s.body listed.body s.nodes.items listed.nodes.items after.nodes.items s.room.items listed.room.items after.room.items
    c.in-Some-members.ensures.value c.count_members-count.ensures c.in_ok-push_plain-2.ensures.ok c.push_plain-in-Some-members.ensures.body c.push_plain-in-Some-members.ensures.room adds)
    c.push_members.ensures.ok

pub push_tree-returns-in-Some-true-clause-ok : goal.push_tree-returns-in-Some-true-clause-ok
push_tree-returns-in-Some-true-clause-ok t c =
    let s = c.args.self.now in
    let after = c.push_plain-in-Some-true.new.self in
    on_ok_weaker c.push_plain-in-Some-true.result
    (λ f. subst (λ ms. Adds ms s.body.now s.nodes.items s.room.items after.nodes.items after.room.items) (flag_marks c.args.tree.now true (search rules))
    (plain_added s.body.now s.room.items after.room.items s.nodes.items after.nodes.items (a_flag true) f.0 f.3 c.push_plain-in-Some-true.ensures.room f.1))
    c.push_plain-in-Some-true.ensures.ok

pub push_tree-returns-in-Some-false-clause-ok : goal.push_tree-returns-in-Some-false-clause-ok
push_tree-returns-in-Some-false-clause-ok t c =
    let s = c.args.self.now in
    let after = c.push_plain-in-Some-false.new.self in
    on_ok_weaker c.push_plain-in-Some-false.result
    (λ f. subst (λ ms. Adds ms s.body.now s.nodes.items s.room.items after.nodes.items after.room.items) (flag_marks c.args.tree.now false (search rules))
    (plain_added s.body.now s.room.items after.room.items s.nodes.items after.nodes.items (a_flag false) f.0 f.3 c.push_plain-in-Some-false.ensures.room f.1))
    c.push_plain-in-Some-false.ensures.ok

pub push_tree-returns-in-None-clause-ok : goal.push_tree-returns-in-None-clause-ok
push_tree-returns-in-None-clause-ok t c =
    let s = c.args.self.now in
    let after = c.push_plain-in-None.new.self in
    on_ok_weaker c.push_plain-in-None.result
    (λ f. subst (λ ms. Adds ms s.body.now s.nodes.items s.room.items after.nodes.items after.room.items)
    (null_marks c.args.tree.now c.in_default-items.ensures.value c.in_default-members.ensures.value (sym c.in_default.ensures) (sym c.in_default-as_number.ensures) c.in-None.ensures)
    (plain_added s.body.now s.room.items after.room.items s.nodes.items after.nodes.items nothing f.0 f.3 c.push_plain-in-None.ensures.room f.1))
    c.push_plain-in-None.ensures.ok
