use Rattle.std.proofs.Common.{◌≡◌, ◌++◌, drop}
use Rattle.json.specs.Json as json
use Rattle.json.specs.Tree.{items_tokens, members_tokens}
use Rattle.toml.specs.View.{items_view, members_view}
use Rattle.garde_toml.specs.Spelled.{SpellItems, SpellMembers}
use Rattle.garde_toml.proofs.write.+write.Given as goal

-- whatever spells the items that are left, written behind what was written, makes the whole
abbrev pub invariant-write_items-loop-item : goal.invariant-write_items-loop-item
invariant-write_items-loop-item l =
    (l.out.before ≡ l.initial.out.before)
    × ((rest : json.Items) → SpellItems (items_view (drop l.item-index l.item-items)) rest
    → (js : json.Items) × SpellItems (items_view l.item-items) js × (l.out.tokens ++ items_tokens rest ≡ l.initial.out.tokens ++ items_tokens js))

abbrev pub invariant-write_members-loop-key : goal.invariant-write_members-loop-key
invariant-write_members-loop-key l =
    (l.out.before ≡ l.initial.out.before)
    × ((rest : json.Members) → SpellMembers (members_view l.key-iterator) rest
    → (js : json.Members) × SpellMembers (members_view l.fn.members.entries) js × (l.out.tokens ++ members_tokens rest ≡ l.initial.out.tokens ++ members_tokens js))
