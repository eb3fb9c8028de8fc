-- What is asked of the text that a tree is.
use Rattle.std.specs.Prelude.{ℕ, List}
use Rattle.json.specs.Json.{Json}
use Rattle.json.specs.Find.{as_str}
use Rattle.garde.specs.Visits.{Visits}
use Rattle.garde_tape.specs.Look.{kind_of}
use Rattle.garde_schema.specs.declared.fault.FormFault.TheVariants.{Wrong}
use Rattle.garde_schema.specs.declared.fault.Wanted.TheVariants as wanted
use Rattle.garde_schema.specs.Forms.{FormTexts, formed}

-- this is asked of the text, and another tree is a fault
abbrev pub text_visits : FormTexts → (List ℕ → Visits) → Json → Visits
text_visits texts each j = formed (texts (Wrong wanted.Text (kind_of j))) each (as_str j)
