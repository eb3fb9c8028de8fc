-- The JSON value that spells a TOML value.
use Rattle.std.specs.Prelude.{◌≡◌, ℕ, List, if◌then◌else◌}
use Rattle.std.specs.Float.{Float, float_is_finite}
use Rattle.std.specs.Fmt.{signed_decimal}
use Rattle.json.specs.Json.{Json}
use Rattle.json.specs.Json as json
use Rattle.toml.specs.Data.{Data, string, integer, float, boolean, datetime, array, table, Items, no_items, item, Members, no_members, member}
use Rattle.toml_datetime.specs.Text.{datetime_text}
use Rattle.toml_writer.specs.Text.{IsFloatText}
use Rattle.garde_form.specs.Bare.{bare}

-- a finite float is a number, with a point or an exponent; `nan`, `inf` and `-inf` are bare values
abbrev pub SpellsFloat : Float → Json → Type 0
SpellsFloat x j = (text : List ℕ) × IsFloatText x text × (j ≡ (if float_is_finite x then json.number text else bare text))

abbrev mutual
  -- a date or a time is a bare value in its TOML form
  pub Spells : Data → Json → Type 0
  Spells (string s) j = j ≡ json.string s
  Spells (integer z) j = j ≡ json.number (signed_decimal z)
  Spells (float x) j = SpellsFloat x j
  Spells (boolean b) j = j ≡ json.boolean b
  Spells (datetime dt) j = j ≡ bare (datetime_text dt)
  Spells (array ds) j = (js : json.Items) × (j ≡ json.array js) × SpellItems ds js
  Spells (table ms) j = (js : json.Members) × (j ≡ json.object js) × SpellMembers ms js

  -- an item for each item, in their order
  pub SpellItems : Items → json.Items → Type 0
  SpellItems no_items js = js ≡ json.no_items
  SpellItems (item d ds) js = (j : Json) × (rest : json.Items) × (js ≡ json.item j rest) × Spells d j × SpellItems ds rest

  -- a member for each key, in the order of the keys
  pub SpellMembers : Members → json.Members → Type 0
  SpellMembers no_members js = js ≡ json.no_members
  SpellMembers (member k d ms) js = (j : Json) × (rest : json.Members) × (js ≡ json.member k j rest) × Spells d j × SpellMembers ms rest
