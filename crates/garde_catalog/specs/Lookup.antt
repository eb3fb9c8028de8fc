-- Which of the offered languages a request asks for (RFC 4647, section 3.4; RFC 9110, section 12.5.4).
use Rattle.std.specs.Prelude.{◌≡◌, ◌≤◌, ◌<◌, ◌==◌, ◌||◌, ℕ, List, ◌∷◌, ◌++◌, All, length, map, take, slice_index, slice_get, IsTrue, Option, Some, None, ◌⊎◌}
use Rattle.std.specs.Char.{to_ascii_lowercase}
use Rattle.garde_catalog.specs.Catalog.{Entry}
use Rattle.garde_catalog.specs.Field.{Want, wants_in}
use Rattle.garde_catalog.specs.declared.language.Language.{Language}
use Rattle.garde_catalog.specs.declared.lookup.Best.{Best}

-- the tag is the range, or what is left of it after cutting subtags off its end, in small or capital letters
abbrev pub Fits : List ℕ → List ℕ → Type 0
Fits range tag =
    (length tag ≤ length range)
    × (map to_ascii_lowercase (take (length tag) range) ≡ map to_ascii_lowercase tag)
    × IsTrue ((length range == length tag) || (slice_index range (length tag) == 45))

-- the tag of no language that is offered fits the range
abbrev pub HasNone : List Language → List ℕ → Type 0
HasNone offered range = All (λ language. ¬ (Fits range language.tag.now)) offered

-- The tag of the language in this place fits the range, and none that fits is longer: it is the first that cutting comes to. Of several
-- of one length it is the first that is offered.
pub record IsLookup (offered : List Language) (range : List ℕ) (place : ℕ) : Type 0 where
  pub language : Language
  pub there : slice_get offered place ≡ Some language
  pub fits : Fits range language.tag.now
  pub longest : All (λ other. Fits range other.tag.now → length other.tag.now ≤ length language.tag.now) offered
  pub first : All (λ other. Fits range other.tag.now → length other.tag.now < length language.tag.now) (take place offered)

-- the range is wanted, and the tag of a language that is offered fits it
abbrev pub IsAsked : List Language → Want → Type 0
IsAsked offered want = (0 < want.1) × (¬ (HasNone offered want.0))

-- The place is that of the language of a range that is wanted, and no range that is asked for has a greater weight. Of several of one
-- weight it is the first.
pub record IsBest (wants : List Want) (offered : List Language) (place : ℕ) : Type 0 where
  pub want : Want
  pub before : List Want
  pub after : List Want
  pub parts : wants ≡ before ++ want ∷ after
  pub wanted : 0 < want.1
  pub lookup : IsLookup offered want.0 place
  pub first : All (λ other. IsAsked offered other → other.1 < want.1) before
  pub greatest : All (λ other. IsAsked offered other → other.1 ≤ want.1) after

-- the place of the language that these ranges ask for, or none
abbrev pub IsPicked : List Want → List Language → Option ℕ → Type 0
IsPicked wants offered None = All (λ want. ¬ (IsAsked offered want)) wants
IsPicked wants offered (Some place) = IsBest wants offered place

-- the same of a field `Accept-Language`
abbrev pub IsAskedBy : List ℕ → List Language → Option ℕ → Type 0
IsAskedBy field offered place = IsPicked (wants_in field) offered place

-- the place of the language that the ranges that were seen ask for, and the weight of the one that asks for it
abbrev pub Weighs : List Want → List Language → Option ℕ → ℕ → Type 0
Weighs seen offered None weight = (weight ≡ 0) × IsPicked seen offered None
Weighs seen offered (Some place) weight = (best : IsBest seen offered place) × (best.want.1 ≡ weight)

abbrev pub IsBestOf : List Want → List Language → Best → Type 0
IsBestOf seen offered best = Weighs seen offered best.place best.weight

-- the best of the ranges that were seen, and that of them and these behind them
abbrev pub IsBestWith : List Language → List Want → Best → Best → Type 0
IsBestWith offered more old new = (seen : List Want) → IsBestOf seen offered old → IsBestOf (seen ++ more) offered new

-- a language that is offered is in the place that is picked, and none where none is
abbrev pub IsThere : List Language → (Option ℕ → Type 0) → Option Language → Type 0
IsThere offered picked None = picked None
IsThere offered picked (Some language) = (place : ℕ) × (slice_get offered place ≡ Some language) × picked (Some place)

-- the place of the language that a tag asks for, by itself, or none
abbrev pub IsFound : List Language → List ℕ → Option ℕ → Type 0
IsFound offered tag None = HasNone offered tag
IsFound offered tag (Some place) = IsLookup offered tag place

-- this holds of the table of the language that a tag asks for, and of the other table where it asks for none that is offered
abbrev pub IsOfTag : List Language → List ℕ → List Entry → (List Entry → Type 0) → Type 0
IsOfTag offered tag otherwise holds =
    ((language : Language) × IsThere offered (IsFound offered tag) (Some language) × holds language.table.now)
    ⊎ (HasNone offered tag × holds otherwise)
