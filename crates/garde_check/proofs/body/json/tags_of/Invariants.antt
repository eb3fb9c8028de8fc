use Rattle.std.proofs.Common.{◌≡◌, [], ℕ, List, drop}
use Rattle.std.specs.Prelude.{IfOk}
use Rattle.serde_json.specs.View.{items_view}
use Rattle.garde_check.specs.Body.{texts_of}
use Rattle.garde_check.specs.Request.{texts_of_items}
use Rattle.garde_check.proofs.body.json.tags_of.Given as goal

-- the texts so far were made, and those of the items that are left come behind them
abbrev pub invariant-loop-item : goal.invariant-loop-item
invariant-loop-item l =
    (done : List (List ℕ)) × (texts_of_items [] (items_view l.item-items) ≡ texts_of_items done (items_view (drop l.item-index l.item-items)))
    × IfOk l.texts (λ made. texts_of made ≡ done)
