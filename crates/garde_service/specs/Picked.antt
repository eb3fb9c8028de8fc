-- The ranges of a field ask for one language.
use Rattle.std.proofs.Common.{◌≡◌, ◌≤◌, ◌<◌, ◌∷◌, ◌++◌, ℕ, List, [], All, Option, Some, None, length, slice_get, take, ◌⊎◌, refl, sym, ap, ◌∙◌, subst, arith, inl, inr}
use Rattle.std.proofs.lemmas.Bool.{cases_lt}
use Rattle.std.proofs.lemmas.List.{get_or-take, length-take-le}
use Rattle.std.proofs.lemmas.List.Elements.{All-head, All-tail}
use Rattle.std.proofs.lemmas.Option.{get_or_from_slice_get, slice_get_within}
use Rattle.garde_catalog.specs.Field.{Want}
use Rattle.garde_catalog.specs.Lookup.{Fits, IsAsked, IsBest, IsLookup, IsPicked}
use Rattle.garde_catalog.specs.declared.language.Language.{Language}

-- what holds of all in front holds of one that stands there
all_in_front : {X : Type 0} (P : X → Type 0) (xs : List X) (i k : ℕ) (x : X) → All P (take i xs) → i ≤ length xs → slice_get xs k ≡ Some x → k < i → P x
all_in_front P xs i k x all within there low =
    let inside : k < length (take i xs) = omega (arith, length-take-le i xs within) in
    subst P (get_or-take i xs k x low ∙ get_or_from_slice_get xs k x x there) (all k x inside)

all_there : {X : Type 0} (P : X → Type 0) (xs : List X) (k : ℕ) (x : X) → All P xs → slice_get xs k ≡ Some x → P x
all_there P xs k x all there = subst P (get_or_from_slice_get xs k x x there) (all k x (slice_get_within xs k x there))

-- of two places neither is before the other one
not_before : (offered : List Language) (range : List ℕ) (a b : ℕ) → IsLookup offered range a → IsLookup offered range b → a < b → ⊥
not_before offered range a b one other low =
    let less : length one.language.tag.now < length other.language.tag.now =
    all_in_front (λ (l : Language). Fits range l.tag.now → length l.tag.now < length other.language.tag.now) offered b a one.language other.first
    (let inside = slice_get_within offered b other.language other.there in omega arith) one.there low one.fits in
    let most : length other.language.tag.now ≤ length one.language.tag.now =
    all_there (λ (l : Language). Fits range l.tag.now → length l.tag.now ≤ length one.language.tag.now) offered b other.language one.longest other.there other.fits in
    omega arith

one_lookup : (offered : List Language) (range : List ℕ) (a b : ℕ) → IsLookup offered range a → IsLookup offered range b → a ≡ b
one_lookup offered range a b one other =
    elim (cases_lt a b) [
      | inl low ↦ absurd (not_before offered range a b one other low)
      | inr high ↦
          elim (cases_lt b a) [
            | inl low ↦ absurd (not_before offered range b a other one low)
            | inr same ↦ omega arith
          ]
    ]

-- what is looked up is asked for, where it is wanted
is_asked : (offered : List Language) (want : Want) (place : ℕ) → 0 < want.1 → IsLookup offered want.0 place → IsAsked offered want
is_asked offered want place wanted found =
    (wanted, λ none. all_there (λ (l : Language). ¬ (Fits want.0 l.tag.now)) offered place found.language none found.there found.fits)

abbrev head_of : Want → List Want → Want
head_of d [] = d
head_of d (x ∷ xs) = x

abbrev tail_of : List Want → List Want
tail_of [] = []
tail_of (x ∷ xs) = xs

middle : (P : Want → Type 0) (front back : List Want) (y : Want) → All P (front ++ y ∷ back) → P y
middle P [] back y all = All-head P y back all
middle P (x ∷ front) back y all = middle P front back y (All-tail P x (front ++ y ∷ back) all)

moved : (P : Want → Type 0) (xs ys : List Want) → xs ≡ ys → All P xs → All P ys
moved P xs ys e all = subst (λ (l : List Want). All P l) e all

-- a list that is cut at two of its elements is cut in one place, or one of them stands behind the other
cut_twice : (B A F K : Want → Type 0) (before after front back : List Want) (x y : Want)
    → All B before → All A after → All F front → All K back → before ++ x ∷ after ≡ front ++ y ∷ back
    → (x ≡ y) ⊎ ((F x × A y) ⊎ (B y × K x))
cut_twice B A F K [] after [] back x y in_before in_after in_front in_back e = inl (ap (λ l. head_of x l) e)
cut_twice B A F K [] after (c ∷ front) back x y in_before in_after in_front in_back e =
    inr (inl (
      subst F (sym (ap (λ l. head_of x l) e)) (All-head F c front in_front),
      middle A front back y (moved A after (front ++ y ∷ back) (ap (λ l. tail_of l) e) in_after),
    ))
cut_twice B A F K (b ∷ before) after [] back x y in_before in_after in_front in_back e =
    inr (inr (
      subst B (ap (λ l. head_of x l) e) (All-head B b before in_before),
      middle K before after x (moved K back (before ++ x ∷ after) (sym (ap (λ l. tail_of l) e)) in_back),
    ))
cut_twice B A F K (b ∷ before) after (c ∷ front) back x y in_before in_after in_front in_back e =
    cut_twice B A F K before after front back x y (All-tail B b before in_before) in_after (All-tail F c front in_front) in_back
    (ap (λ l. tail_of l) e)

no_two : (offered : List Language) (x y : Want) → (IsAsked offered x → x.1 < y.1) → (IsAsked offered y → y.1 ≤ x.1) → IsAsked offered x → IsAsked offered y → ⊥
no_two offered x y less most one other =
    let low : x.1 < y.1 = less one in
    let high : y.1 ≤ x.1 = most other in
    omega arith

one_best : (wants : List Want) (offered : List Language) (a b : ℕ) → IsBest wants offered a → IsBest wants offered b → a ≡ b
one_best wants offered a b one other =
    let asked = is_asked offered one.want a one.wanted one.lookup in
    let asked_too = is_asked offered other.want b other.wanted other.lookup in
    elim (cut_twice (λ w. IsAsked offered w → w.1 < one.want.1) (λ w. IsAsked offered w → w.1 ≤ one.want.1)
    (λ w. IsAsked offered w → w.1 < other.want.1) (λ w. IsAsked offered w → w.1 ≤ other.want.1)
    one.before one.after other.before other.after one.want other.want one.first one.greatest other.first other.greatest
    (sym one.parts ∙ other.parts)) [
      | inl same ↦ one_lookup offered other.want.0 a b (subst (λ (w : Want). IsLookup offered w.0 a) same one.lookup) other.lookup
      | inr apart ↦
          absurd (elim apart [
            | inl first ↦ no_two offered one.want other.want first.0 first.1 asked asked_too
            | inr second ↦ no_two offered other.want one.want second.0 second.1 asked_too asked
          ])
    ]

none_best : (wants : List Want) (offered : List Language) (place : ℕ) → IsBest wants offered place → IsPicked wants offered None → ⊥
none_best wants offered place best none =
    middle (λ w. ¬ (IsAsked offered w)) best.before best.after best.want
    (moved (λ w. ¬ (IsAsked offered w)) wants (best.before ++ best.want ∷ best.after) best.parts none)
    (is_asked offered best.want place best.wanted best.lookup)

-- one language at most is picked
pub picked_once : (wants : List Want) (offered : List Language) (a b : Option ℕ) → IsPicked wants offered a → IsPicked wants offered b → a ≡ b
picked_once wants offered None None one other = refl
picked_once wants offered None (Some b) one other = absurd (none_best wants offered b other one)
picked_once wants offered (Some a) None one other = absurd (none_best wants offered a one other)
picked_once wants offered (Some a) (Some b) one other = ap (λ place. Some place) (one_best wants offered a b one other)
