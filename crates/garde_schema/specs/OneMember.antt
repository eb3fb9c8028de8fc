-- Objects with one member.
use Rattle.std.specs.Prelude.{ℕ, List, [], ◌∷◌, Option, Some, None}
use Rattle.json.specs.Json as json
use Rattle.json.specs.Json.{Json}
use Rattle.json.specs.Find.{as_object}
use Rattle.garde_tape.specs.Look.{kind_of}
use Rattle.garde_schema.specs.declared.fault.FormFault.{FormFault}
use Rattle.garde_schema.specs.declared.fault.FormFault.TheVariants.{Wrong}
use Rattle.garde_schema.specs.declared.fault.Wanted.{Wanted}
use Rattle.garde_schema.specs.declared.fault.Wanted.TheVariants as wanted
use Rattle.garde_schema.specs.Members.{members_in}

abbrev pub name_among : List (List ℕ × Json) → Option (List ℕ)
name_among [] = None
name_among (m ∷ []) = Some m.0
name_among (m ∷ n ∷ ms) = None

-- the name of the only member; none of an object with no member or with several, and of another value
abbrev pub only_name : Json → Option (List ℕ)
only_name j = name_among (members_in j)

abbrev pub only_wanted : Option json.Members → Wanted
only_wanted None = wanted.Object
only_wanted (Some ms) = wanted.OneMember

-- what is wrong with a value that is no object with one member
abbrev pub only_fault : Json → FormFault
only_fault j = Wrong (only_wanted (as_object j)) (kind_of j)
