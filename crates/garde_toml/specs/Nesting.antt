-- How deep the JSON value nests that spells a TOML value.
use Rattle.std.specs.Prelude.{ℕ, suc, max, if◌then◌else◌}
use Rattle.std.specs.Float.{Float, float_is_finite}
use Rattle.toml.specs.Data.{Data, float, datetime, array, table, Items, no_items, item, Members, no_members, member}

-- a bare value is a list
abbrev pub float_nesting : Float → ℕ
float_nesting x = if float_is_finite x then 0 else 1

-- how deep arrays, tables and bare values nest
abbrev mutual
  pub nesting : Data → ℕ
  nesting (float x) = float_nesting x
  nesting (datetime dt) = 1
  nesting (array ds) = suc (items_nesting ds)
  nesting (table ms) = suc (members_nesting ms)
  nesting _ = 0

  pub items_nesting : Items → ℕ
  items_nesting no_items = 0
  items_nesting (item d ds) = max (nesting d) (items_nesting ds)

  pub members_nesting : Members → ℕ
  members_nesting no_members = 0
  members_nesting (member k d ms) = max (nesting d) (members_nesting ms)
