-- Names, each with the value beside it.
use Rattle.std.specs.Prelude.{ℕ, List, [], ◌∷◌, cond, Option, Some, None, option_and_then, option_map, unwrap_or}
use Rattle.std.specs.Borrow.{Bor}
use Rattle.std.specs.Str.{bytes_eq}
use Rattle.json.specs.Json.{Json}
use Rattle.json.specs.Find.{as_str}
use Rattle.garde_tape.specs.Look.{kind_of}
use Rattle.garde_schema.specs.declared.fault.FormFault.{FormFault}
use Rattle.garde_schema.specs.declared.fault.FormFault.TheVariants.{Wrong, NotOneOf}
use Rattle.garde_schema.specs.declared.fault.Wanted.TheVariants as wanted

-- the value beside the first of these names that is the text
abbrev pub beside : {V : Type 0} → List (Bor (List ℕ) × V) → List ℕ → Option V
beside [] text = None
beside (row ∷ rows) text = cond (bytes_eq text row.0.now) (Some row.1) (beside rows text)

-- the value that the text of a tree stands for
abbrev pub known_value : {V : Type 0} → List (Bor (List ℕ) × V) → Json → Option V
known_value rows j = option_and_then (λ text. beside rows text) (as_str j)

abbrev pub unknown_text : Json → Option (List ℕ) → FormFault
unknown_text j None = Wrong wanted.Text (kind_of j)
unknown_text j (Some text) = NotOneOf

-- what is wrong with a value that is none of the known texts
abbrev pub one_of_fault : Json → FormFault
one_of_fault j = unknown_text j (as_str j)

-- the value that the text of a tree stands for, and this one for a text beside which none stands
abbrev pub known_or : {V : Type 0} → List (Bor (List ℕ) × V) → V → Json → Option V
known_or rows other j = option_map (λ text. unwrap_or (beside rows text) other) (as_str j)
