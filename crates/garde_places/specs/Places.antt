-- The place of a value in its text.
use Rattle.std.specs.Prelude.{◌≡◌, ℕ, ◌+◌, List, drop, MatchOption, [], ◌∷◌, ◌++◌, ◌⊎◌}
use Rattle.json.specs.Token.{Token}
use Rattle.json.specs.Lex.{tokens}
use Rattle.json.specs.Json.{Json}
use Rattle.json.specs.Find.{BeginsWith, get}
use Rattle.garde_tape.specs.declared.place.Place.{Place}
use Rattle.garde_report.specs.Part.{Part}
use Rattle.garde_tape.specs.Place.{place_at}
use Rattle.garde_places.specs.Text.{BeginsAt}
use Rattle.garde_places.specs.Steps.{reached, tokens_before, before_name}

-- The text spells the value j, and the place is where it begins to spell the value that the path leads to in j.
pub record IsPlaceOf (text : List ℕ) (path : List Part) (j : Json) (place : Place) : Type 0 where
  pub offset : ℕ
  pub counted : place ≡ place_at text offset
  pub begins : BeginsAt text offset (drop (tokens_before path j) (tokens text))
  pub spells : BeginsWith (tokens (drop offset text)) (reached path j)

-- the tokens begin with a member of this name and value
abbrev pub BeginsMember : List Token → List ℕ → Json → Type 0
BeginsMember ts name i = (rest : List Token) × (ts ≡ Token.key name ∷ rest) × BeginsWith rest i

-- The same of the name of a member of the value that the path leads to: of members of one name, the last. Where there is none, it is the place of that value.
pub record IsNamePlaceOf (text : List ℕ) (path : List Part) (name : List ℕ) (j : Json) (place : Place) : Type 0 where
  pub offset : ℕ
  pub counted : place ≡ place_at text offset
  pub begins : BeginsAt text offset (drop (tokens_before path j + before_name name (reached path j)) (tokens text))
  pub spells : MatchOption (get name (reached path j)) (BeginsWith (tokens (drop offset text)) (reached path j)) (λ i. BeginsMember (tokens (drop offset text)) name i)

-- The place of the name of the member that a whole path leads to; at the root, of the whole value.
abbrev pub IsNamePlace : List ℕ → List Part → Json → Place → Type 0
IsNamePlace text path j place =
    ((before : List Part) × (last : Part) × (path ≡ before ++ last ∷ []) × IsNamePlaceOf text before last.text j place)
    ⊎ ((path ≡ []) × IsPlaceOf text [] j place)
