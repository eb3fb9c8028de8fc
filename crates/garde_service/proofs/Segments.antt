-- Paths cut at a slash, and the names of parameters.
use Rattle.std.proofs.Common.{◌≡◌, ◌≢◌, ℕ, ◌+◌, List, [], ◌∷◌, ◌++◌, length, Option, Some, None, MatchOption, Bor, refl, arith, ap, ap₂, sym, ◌∙◌, option_map, option_and_then, Bool, true, false, ◌&&◌, cond}
use Rattle.std.specs.List.{onto_first, slice_split, position_or_len}
use Rattle.std.proofs.Math.ListN.{length-drop}
use Rattle.std.proofs.lemmas.List.Splits.{slice_split_first, slice_split_none}
use Rattle.std.proofs.lemmas.List.Sums.{fails_before_first}
use Rattle.std.proofs.lemmas.Str.Pattern.{IsSplitOnceResult, split_once_first}
use Rattle.garde_service.specs.Paths.{IsCut, closed, fits, is_slash, parameter_in, parameters, segment_fits, segments, with_parameter}

pub cut_none : (path : List ℕ) → IsSplitOnceResult 47 path None → IsCut path path None
cut_none path h =
    let end = split_once_first 47 path None h (omega arith) in
    slice_split_none is_slash path (λ k d below. fails_before_first is_slash path k d (omega (arith, end)))

pub cut_some : (path : List ℕ) (x : Bor (List ℕ) × Bor (List ℕ)) → IsSplitOnceResult 47 path (Some x) → IsCut path x.0.now (Some x.1.now)
cut_some path x h =
    let cut = split_once_first 47 path (Some x) h (omega arith) in (
      slice_split_first is_slash path 0 cut.0
          ∙ ap₂ (λ (front back : List ℕ). front ∷ slice_split is_slash back) (sym cut.1) (sym cut.2),
      omega (arith, cut.0, ap length cut.2, length-drop (position_or_len is_slash path + 1) path),
    )

-- the text in front of `}` is its name
pub closed_by : (name : List ℕ) → closed (name ++ 125 ∷ []) ≡ Some name
closed_by [] = refl
closed_by (byte ∷ []) = refl
closed_by (byte ∷ next ∷ bytes) = ap (λ (inner : Option (List ℕ)). option_and_then (λ name. Some (byte ∷ name)) inner) (closed_by (next ∷ bytes))

joined : (byte : ℕ) (inner : Option (List ℕ)) → inner ≡ None → option_and_then (λ name. Some (byte ∷ name)) inner ≡ None
joined byte inner is = ap (λ (i : Option (List ℕ)). option_and_then (λ name. Some (byte ∷ name)) i) is

-- without `}` at the end there is none
pub not_closed : (bytes : List ℕ) → ((name : List ℕ) → bytes ≢ name ++ 125 ∷ []) → closed bytes ≡ None
not_closed [] none = refl
not_closed (byte ∷ []) none = grind (arith, none [])
not_closed (byte ∷ next ∷ bytes) none = joined byte _ (not_closed (next ∷ bytes) (λ name is. none (byte ∷ name) (ap (λ (xs : List ℕ). byte ∷ xs) is)))

pub not_opened : (segment : List ℕ) → ((rest : List ℕ) → segment ≢ 123 ∷ rest) → parameter_in segment ≡ None
not_opened [] none = refl
not_opened (byte ∷ bytes) none = grind (arith, none bytes)

-- the name, by what `strip_prefix` and `strip_suffix` give
pub of_braces : (segment bytes : List ℕ) (r : Option (Bor (List ℕ))) → segment ≡ 123 ∷ bytes
    → MatchOption r ((front : List ℕ) → bytes ≢ front ++ 125 ∷ []) (λ x. bytes ≡ x.now ++ 125 ∷ [])
    → option_map (λ name. name.now) r ≡ parameter_in segment
of_braces segment bytes None opened closing = sym (ap parameter_in opened ∙ not_closed bytes closing)
of_braces segment bytes (Some x) opened closing = sym (ap parameter_in opened ∙ (ap closed closing ∙ closed_by x.now))

-- ---- paths of another number of segments

added : (byte : ℕ) (pieces : List (List ℕ)) → onto_first byte pieces ≢ []
added byte [] = λ e. cc
added byte (piece ∷ pieces) = λ e. cc

begun : (byte : ℕ) (slash : Bool) (pieces : List (List ℕ)) → cond slash ([] ∷ pieces) (onto_first byte pieces) ≢ []
begun byte true pieces = λ e. cc
begun byte false pieces = added byte pieces

-- each path has a segment
segments_some : (path : List ℕ) → segments path ≢ []
segments_some [] = λ e. cc
segments_some (byte ∷ bytes) = begun byte (is_slash byte) (segments bytes)

nothing_fits : (wanted : List (List ℕ)) → wanted ≢ [] → fits wanted [] ≡ false
nothing_fits [] some = absurd (some refl)
nothing_fits (first ∷ others) some = refl

fits_nothing : (found : List (List ℕ)) → found ≢ [] → fits [] found ≡ false
fits_nothing [] some = absurd (some refl)
fits_nothing (first ∷ others) some = refl

and_false : (a b : Bool) → b ≡ false → (a && b) ≡ false
and_false true b is = is
and_false false b is = refl

pub too_short : (pattern path wanted segment others : List ℕ) → IsCut pattern wanted (Some others) → IsCut path segment None
    → false ≡ fits (segments pattern) (segments path)
too_short pattern path wanted segment others long short =
    sym (ap₂ (λ (ws ss : List (List ℕ)). fits ws ss) long.0 short
    ∙ and_false (segment_fits wanted segment) (fits (segments others) []) (nothing_fits (segments others) (segments_some others)))

pub too_long : (pattern path wanted segment rest : List ℕ) → IsCut pattern wanted None → IsCut path segment (Some rest)
    → false ≡ fits (segments pattern) (segments path)
too_long pattern path wanted segment rest short long =
    sym (ap₂ (λ (ws ss : List (List ℕ)). fits ws ss) short long.0
    ∙ and_false (segment_fits wanted segment) (fits [] (segments rest)) (fits_nothing (segments rest) (segments_some rest)))

no_parameters : (wanted : List (List ℕ)) → parameters wanted [] ≡ []
no_parameters [] = refl
no_parameters (first ∷ others) = refl

-- behind the last segment of a path there is no parameter
pub last_parameter : (pattern path wanted segment others : List ℕ) → IsCut pattern wanted (Some others) → IsCut path segment None
    → parameters (wanted ∷ []) (segment ∷ []) ≡ parameters (segments pattern) (segments path)
last_parameter pattern path wanted segment others long short =
    sym (ap₂ (λ (ws ss : List (List ℕ)). parameters ws ss) long.0 short
    ∙ ap (λ (found : List (List ℕ × List ℕ)). with_parameter (parameter_in wanted) segment found) (no_parameters (segments others)))
