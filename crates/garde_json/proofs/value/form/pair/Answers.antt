use Rattle.std.proofs.Common.{◌≡◌, length, ap, ◌∙◌}
use Rattle.serde_json.specs.Data.{item, no_items}
use Rattle.serde_json.specs.View.{items_view}
use Rattle.garde_json.proofs.ValueItems.{two_long}
use Rattle.garde_json.proofs.value.form.pair.Goals as goal

pub returns-then-items-ne2 : goal.returns-then-items-ne2
returns-then-items-ne2 c = λ first second e.
    let read = rw e at c.in_ok-as_array.ensures in
    let same : items_view c.in_ok-as_array.field-0.now.items ≡ item first (item second no_items) = cc in
    c.if-items-ne2.true (ap length c.as_slice-items.ensures.value ∙ two_long c.in_ok-as_array.field-0.now.items first second same)
