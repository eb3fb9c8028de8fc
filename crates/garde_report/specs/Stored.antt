-- What a component is, as a path keeps it.
use Rattle.std.specs.Prelude.{⊤, ◌≤◌, length, string_bytes}
use Rattle.garde_report.specs.declared.error.component.Component.{Component}
use Rattle.garde_report.specs.declared.error.component.Component.TheVariants as component
use Rattle.garde_report.specs.declared.error.component.Kind.TheVariants.{None, Key, Index}
use Rattle.garde_report.specs.declared.error.owned_component.Stored.{Stored}
use Rattle.garde_report.specs.declared.error.owned_component.Stored.TheVariants.{Unnamed, Field, Place, Long}
use Rattle.garde_report.specs.Part.{Part, part}

-- the kind and the text of a component, wherever the text lies
abbrev pub stored_part : Stored → Part
stored_part (Unnamed text) = part None text
stored_part (Field text) = part Key text
stored_part (Place text) = part Index text
stored_part (Long kind text) = part kind (string_bytes text.value)

-- the component is kept without memory of its own: a text of up to 22 bytes, or the index of an item
abbrev pub IsKeptInline : Component → Type 0
IsKeptInline (component.Text kind text) = length text.now ≤ 22
IsKeptInline (component.Number index) = ⊤
IsKeptInline (component.Signed index) = ⊥
IsKeptInline (component.Wide index) = ⊥
IsKeptInline (component.WideSigned index) = ⊥
