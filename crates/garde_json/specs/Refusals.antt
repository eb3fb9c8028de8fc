-- What the error of a reader prints.
use Rattle.std.specs.Prelude.{ℕ, List, codes}
use Rattle.garde_json.specs.declared.refused.JsonRefused.{JsonRefused}
use Rattle.garde_json.specs.declared.refused.JsonRefused.TheVariants as json

-- why nothing was read from a tree
abbrev pub json_refused_text : JsonRefused → List ℕ
json_refused_text json.Form = codes "the tree is not a report or a path"
json_refused_text json.Memory = codes "out of memory"
