-- The places of the values of a text that was written as JSON, by a list of places, one for each token.
use Rattle.std.specs.Prelude.{◌≡◌, ℕ, ◌+◌, List, [], ◌∷◌, ◌++◌, ◌⊎◌, map, slice_index_or, Bool, true, false, Some}
use Rattle.std.specs.List.{All}
use Rattle.json.specs.Json.{Json, document}
use Rattle.json.specs.Find.{HasValue}
use Rattle.json.specs.Tape.{node_token, Linked}
use Rattle.json.specs.declared.tape.Node.{Node}
use Rattle.garde_report.specs.Part.{Part}
use Rattle.garde_tape.specs.Reading.{json_of}
use Rattle.garde_problem.specs.Coded.{message_parts}
use Rattle.garde_tape.specs.declared.place.Place.{Place}
use Rattle.garde_places.specs.declared.fault.Fault.{Fault}
use Rattle.garde_places.specs.declared.find.Mark.{Mark}
use Rattle.garde_places.specs.Fault.{speaks_of_name}
use Rattle.garde_places.specs.declared.index.Index.{Index}
use Rattle.garde_places.specs.Marks.{MarksHold}
use Rattle.garde_places.specs.Index.{IndexHolds}
use Rattle.garde_tape.specs.Place.{text_start}
use Rattle.garde_places.specs.Steps.{reached, tokens_before, before_name}

-- the place of the token with which the value begins that the path leads to
abbrev pub value_spot : List Place → List Part → Json → Place
value_spot places path j = slice_index_or places (tokens_before path j) text_start

-- that of the name of the member of this name, below the path
abbrev pub spot_below : List Place → List Part → List ℕ → Json → Place
spot_below places path name j = slice_index_or places (tokens_before path j + before_name name (reached path j)) text_start

-- the place of the name of the member that a whole path leads to; at the root, of the whole value
abbrev pub IsNameSpot : List Place → List Part → Json → Place → Type 0
IsNameSpot places path j place =
    ((before : List Part) × (last : Part) × (path ≡ before ++ last ∷ []) × (place ≡ spot_below places before last.text j))
    ⊎ ((path ≡ []) × (place ≡ value_spot places [] j))

abbrev pub IsSpotBy : Bool → List Place → List Part → Json → Place → Type 0
IsSpotBy true places path j place = IsNameSpot places path j place
IsSpotBy false places path j place = place ≡ value_spot places path j

-- the place of a fault: that of the name of which its message speaks, or else of the value at its path
abbrev pub IsFaultSpot : List Place → List Part → List ℕ → Json → Place → Type 0
IsFaultSpot places path message j place = IsSpotBy (speaks_of_name (message_parts message).code) places path j place

-- each of these faults has its place
abbrev pub AreListed : List Place → Json → List Fault → Type 0
AreListed places j faults = All (λ (f : Fault). IsFaultSpot places f.path.now f.error.now j f.place) faults

-- the nodes are the tape of the text, with these marks and these names of wide objects
pub record IsTapeOf (text : List ℕ) (nodes : List Node) (marks : List Mark) (index : Index) : Type 0 where
  pub read : document text ≡ Some (json_of (map node_token nodes))
  pub value : HasValue (map node_token nodes)
  pub links : Linked (map node_token nodes) 0 nodes
  pub hold : MarksHold (map node_token nodes) marks
  pub names : IndexHolds (map node_token nodes) index
