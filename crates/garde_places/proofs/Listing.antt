-- The places of a text are a list of places, one for each of its tokens.
use Rattle.std.proofs.Common.{◌≡◌, ℕ, List, [], get_or, Bool, true, false, Some, sym, ap, ◌∙◌, subst, inl, inr}
use Rattle.json.specs.Json.{Json, document}
use Rattle.garde_report.specs.Part.{Part}
use Rattle.garde_problem.specs.Coded.{message_parts}
use Rattle.garde_tape.specs.declared.place.Place.{Place}
use Rattle.garde_places.specs.declared.fault.Fault.{Fault}
use Rattle.garde_places.specs.declared.lex.Mode.TheVariants.{Between}
use Rattle.garde_places.specs.Fault.{ArePlaced, IsPlaceBy, speaks_of_name}
use Rattle.garde_places.specs.Listed.{AreListed, IsSpotBy}
use Rattle.garde_places.specs.Places.{IsPlaceOf, IsNamePlaceOf}
use Rattle.garde_places.specs.Scan.{spots}
use Rattle.garde_tape.specs.Place.{text_start}
use Rattle.garde_places.specs.Steps.{IsTokenBy}
use Rattle.garde_places.proofs.Locating.{located, located_name}

-- the place that the list has for the token
pub spot_by : (b : Bool) (places : List Place) (path : List Part) (j : Json) (n : ℕ) (place : Place) → IsTokenBy b path j n → place ≡ get_or places n text_start → IsSpotBy b places path j place
spot_by true places path j n place (inl t) same = inl (t.0, t.1, t.2, same ∙ ap (λ n. get_or places n text_start) t.3)
spot_by true places path j n place (inr t) same = inr (t.0, same ∙ ap (λ n. get_or places n text_start) t.1)
spot_by false places path j n place t same = same ∙ ap (λ n. get_or places n text_start) t

module _ (text : List ℕ) (j : Json) (e : document text ≡ Some j) (found : List Place) (same : found ≡ spots Between text_start text) where
  pub placed_by : (b : Bool) (path : List Part) (place : Place) → IsSpotBy b found path j place → IsPlaceBy b text path j place
  placed_by true path place (inl s) = inl (s.0, s.1, s.2, subst (IsNamePlaceOf text s.0 s.1.text j) (sym s.3) (located_name text j e s.0 s.1.text found text_start same))
  placed_by true path place (inr s) = inr (s.0, subst (IsPlaceOf text [] j) (sym s.1) (located text j e [] found text_start same))
  placed_by false path place s = subst (IsPlaceOf text path j) (sym s) (located text j e path found text_start same)

  pub all_placed : (faults : List Fault) → AreListed found j faults → ArePlaced text j faults
  all_placed faults listed = λ k d within.
      let f = get_or faults k d in
      placed_by (speaks_of_name (message_parts f.error.now).code) f.path.now f.place (listed k d within)
