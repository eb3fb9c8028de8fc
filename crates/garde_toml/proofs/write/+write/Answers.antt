use Rattle.std.proofs.Common.{◌≡◌, ◌++◌, ◌∷◌, [], drop, string_bytes, refl, ap, subst, ◌∙◌, append_assoc, rules, arith}
use Rattle.std.proofs.lemmas.Grind.{common_steps}
use Rattle.std.proofs.lemmas.List.{drop_all}
use Rattle.json.specs.Json as json
use Rattle.json.specs.Token.{key}
use Rattle.json.specs.Tree.{json_tokens, items_tokens, members_tokens}
use Rattle.toml.specs.Data.{no_items}
use Rattle.toml.specs.View.{items_view}
use Rattle.toml.proofs.Views.{Entry, items_view-drop, view-String, view-Boolean, view-Array, view-Table}
use Rattle.garde_toml.specs.Spelled.{SpellItems}
use Rattle.garde_toml.proofs.Spelling.{one_token, bracket_first, brace_first, bracket_last, brace_last}
use Rattle.garde_toml.proofs.write.+write.Goals as goal

pub write_value-returns-in-String : goal.write_value-returns-in-String
write_value-returns-in-String t c =
    let same : c.as_str.result.now ≡ string_bytes c.in-String.text = search rules in
    one_token _ _ _ _ _ (json.string c.as_str.result.now) refl (rw (c.in-String.is, view-String c.in-String.text) (ap json.string same)) c.string.ensures

pub write_value-returns-in-Boolean : goal.write_value-returns-in-Boolean
write_value-returns-in-Boolean t c =
    let b = c.in-Boolean.flag in
    one_token _ _ _ _ _ (json.boolean b) refl (rw (c.in-Boolean.is, view-Boolean b) refl) c.boolean.ensures

pub write_value-returns-in_ok-begin_array-in-Array : goal.write_value-returns-in_ok-begin_array-in-Array
write_value-returns-in_ok-begin_array-in-Array t c =
    let began = c.in_ok-begin_array-in-Array.ensures in
    rw (c.in-Array.is, view-Array c.in-Array.items) (bracket_first _ c.args.out.now c.begin_array.new.self c.write_items.new.out _ began.room.0 began.ok c.write_items.ensures)

pub write_value-returns-in_ok-begin_object-in-Table : goal.write_value-returns-in_ok-begin_object-in-Table
write_value-returns-in_ok-begin_object-in-Table t c =
    let began = c.in_ok-begin_object-in-Table.ensures in
    rw (c.in-Table.is, view-Table c.in-Table.members) (brace_first _ c.args.out.now c.begin_object.new.self c.write_members.new.out _ began.room.0 began.ok c.write_members.ensures)

pub write_items-loop-item-preserved : goal.write_items-loop-item-preserved
write_items-loop-item-preserved t c =
    let l = c.loop-item in
    let xs = c.deref-item-items.result.now in
    let (j, spelled, before, written) = c.in_ok-write_value.ensures in (
      before ∙ l.invariant.0,
      λ rest more.
          let step = items_view-drop xs l.item-index c.item-item.result c.loop-item-test.true in
          let (js, whole, same) = l.invariant.1 (json.item j rest) (rw step (j, rest, refl, rw c.item-item.is at spelled, more)) in
          (js, whole, ap (λ ts. ts ++ items_tokens rest) written ∙ append_assoc l.out.tokens (json_tokens j) (items_tokens rest) ∙ same),
    )

pub write_items-returns : goal.write_items-returns
write_items-returns t c =
    let l = c.loop-item in
    let xs = c.deref-item-items.result.now in
    let none : items_view (drop l.item-index xs) ≡ no_items = rw (drop_all l.item-index xs (omega arith)) refl in
    let (js, whole, same) = l.invariant.1 json.no_items (rw none refl) in
    let all = subst (λ vs. SpellItems (items_view vs) js) c.deref-item-items.ensures.value whole in
    bracket_last _ c.args.out.now _ _ _ js all l.invariant.0 same c.end_array.ensures

pub write_members-loop-key-preserved : goal.write_members-loop-key-preserved
write_members-loop-key-preserved t c =
    let l = c.loop-key in
    let entry : Entry = (c.in-Some.key.now, c.in-Some.value.now) in
    let left : l.key-iterator ≡ entry ∷ c.next.new.self = grind (arith, common_steps) in
    let text = c.as_str.result.now in
    let name : text ≡ string_bytes c.in-Some.key.now = search rules in
    let named = c.in_ok-write_key.ensures in
    let (j, spelled, before, written) = c.in_ok-write_value.ensures in (
      before ∙ named.room.0 ∙ l.invariant.0,
      λ rest more.
          let tail = json_tokens j ++ members_tokens rest in
          let (js, whole, same) = l.invariant.1 (json.member (string_bytes c.in-Some.key.now) j rest) (rw left (j, rest, refl, spelled, more)) in (
            js,
            whole,
            ap (λ ts. ts ++ members_tokens rest) (written ∙ ap (λ ts. ts ++ json_tokens j) named.ok)
                ∙ append_assoc (l.out.tokens ++ key text ∷ []) (json_tokens j) (members_tokens rest)
                ∙ append_assoc l.out.tokens (key text ∷ []) tail
                ∙ ap (λ n. l.out.tokens ++ key n ∷ tail) name
                ∙ same,
          ),
    )

pub write_members-returns : goal.write_members-returns
write_members-returns t c =
    let l = c.loop-key in
    let none : l.key-iterator ≡ [] = grind (arith, common_steps) in
    let (js, whole, same) = l.invariant.1 json.no_members (rw none refl) in
    brace_last _ c.args.out.now _ _ _ js whole l.invariant.0 same c.end_object.ensures
