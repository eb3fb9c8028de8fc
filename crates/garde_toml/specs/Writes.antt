-- What is written for a TOML value.
use Rattle.std.specs.Prelude.{◌≡◌, ◌++◌}
use Rattle.json.specs.Json.{Json}
use Rattle.json.specs.Json as json
use Rattle.json.specs.Tree.{json_tokens, items_tokens, members_tokens}
use Rattle.json.specs.Written.{Written}
use Rattle.toml.specs.Data.{Data, Items, Members}
use Rattle.garde_toml.specs.Spelled.{Spells, SpellItems, SpellMembers}

-- the tokens of a value that spells this one stand behind those that stood there
abbrev pub WritesValue : Data → Written → Written → Type 0
WritesValue d old new = (j : Json) × Spells d j × (new.before ≡ old.before) × (new.tokens ≡ old.tokens ++ json_tokens j)

-- the same of items, with the bracket that closes the list
abbrev pub WritesItems : Items → Written → Written → Type 0
WritesItems ds old new = (js : json.Items) × SpellItems ds js × (new.before ≡ old.before) × (new.tokens ≡ old.tokens ++ items_tokens js)

-- the same of members, with the brace that closes the object
abbrev pub WritesMembers : Members → Written → Written → Type 0
WritesMembers ms old new = (js : json.Members) × SpellMembers ms js × (new.before ≡ old.before) × (new.tokens ≡ old.tokens ++ members_tokens js)
