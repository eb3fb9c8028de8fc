use Rattle.std.proofs.Common.{◌++◌, [], ◌∷◌, map, reverse, sym, ap, ◌∙◌, append_assoc, arith, length, length-append}
use Rattle.std.proofs.lemmas.List.{reverse-append, map-append}
use Rattle.garde_report.specs.Part.{item_part}
use Rattle.garde_places.proofs.way.way_of.Goals as goal

-- one component more is taken, and one less is left
pub loop-component-preserved : goal.loop-component-preserved
loop-component-preserved c = (
  ap (λ xs. map item_part xs ++ reverse c.next_back.new.self) c.push_reserved.ensures.items
      ∙ ap (λ xs. xs ++ reverse c.next_back.new.self) (map-append item_part c.loop-component.way.items (c.in-Some.component ∷ []))
      ∙ append_assoc (map item_part c.loop-component.way.items) (item_part c.in-Some.component ∷ []) (reverse c.next_back.new.self)
      ∙ ap (λ ps. map item_part c.loop-component.way.items ++ ps) (sym (ap reverse c.in-Some.ensures.steps ∙ reverse-append c.next_back.new.self (item_part c.in-Some.component ∷ [])))
      ∙ c.loop-component.invariant.0,
  omega (
    arith,
    c.loop-component.invariant.1,
    c.push_reserved.ensures.capacity,
    ap length c.push_reserved.ensures.items,
    length-append c.loop-component.way.items (c.in-Some.component ∷ []),
    ap length c.in-Some.ensures.steps,
    length-append c.next_back.new.self (item_part c.in-Some.component ∷ []),
  ),
)
