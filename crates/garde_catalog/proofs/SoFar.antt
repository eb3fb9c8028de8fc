-- What the two loops know of what they have seen.
use Rattle.std.proofs.Common.{◌≡◌, ◌≤◌, ◌<◌, ◌+◌, ◌∷◌, ◌++◌, ℕ, List, [], All, Option, Some, None, length, map, take, get_or, slice_get, refl, sym, ap, ◌∙◌, subst, append_assoc, append-nil, arith, rules, Bool, false, IsTrue, IfSome, IfNone, MatchOption, ◌↔◌}
use Rattle.std.proofs.lemmas.Option.{slice_get-get_or}
use Rattle.std.specs.Borrow.{Bor}
use Rattle.std.proofs.lemmas.List.{take_more, take_all, map-append}
use Rattle.std.proofs.lemmas.List.Elements.{All-append, All-cons, All-nil}
use Rattle.garde_catalog.specs.Field.{Want, split_once, want_from, want_in, want_of, wants_in, wants_left}
use Rattle.garde_catalog.specs.Lookup.{Fits, HasNone, IsLookup, IsAsked, IsAskedBy, IsBest, IsBestOf, IsBestWith, IsPicked, Weighs}
use Rattle.garde_catalog.specs.declared.lookup.Best.{Best}
use Rattle.garde_catalog.specs.declared.lookup.Range.{Range}
use Rattle.garde_catalog.specs.declared.language.Language.{Language}
use Rattle.garde_catalog.proofs.Cutting.{one_more, wants_first}

-- of the first tags: the longest that fits, and its length
pub record Longest (offered : List Language) (range : List ℕ) (i place longest : ℕ) : Type 0 where
  pub language : Language
  pub there : slice_get offered place ≡ Some language
  pub fits : Fits range language.tag.now
  pub long : length language.tag.now ≡ longest
  pub all : All (λ other. Fits range other.tag.now → length other.tag.now ≤ longest) (take i offered)
  pub first : All (λ other. Fits range other.tag.now → length other.tag.now < longest) (take place offered)

abbrev pub LongestSoFar : List Language → List ℕ → ℕ → Option ℕ → ℕ → Type 0
LongestSoFar offered range i None longest = All (λ language. ¬ (Fits range language.tag.now)) (take i offered)
LongestSoFar offered range i (Some place) longest = Longest offered range i place longest

-- of the first ranges: the best
abbrev pub BestSoFar : List Range → List Language → ℕ → Best → Type 0
BestSoFar ranges offered i best = IsBestOf (map want_of (take i ranges)) offered best

-- what stands past the end of a list
abbrev pub no_tag : Bor (List ℕ)
no_tag = record { ref_ptr = (0, 0); now = [] }

abbrev pub no_language : Language
no_language = record { tag = no_tag; table = record { ref_ptr = (0, 0); now = [] } }

abbrev pub no_range : Range
no_range = record { tag = no_tag; weight = 0 }

all_and : {X : Type 0} (P : X → Type 0) (xs : List X) (x : X) → All P xs → P x → All P (xs ++ x ∷ [])
all_and P xs x h p = All-append P xs (x ∷ []) h (All-cons P x [] p (All-nil P))

all_more : {X : Type 0} (P : X → Type 0) (xs : List X) (i : ℕ) (d : X) → i < length xs → All P (take i xs) → P (get_or xs i d)
    → All P (take (i + 1) xs)
all_more P xs i d low h p = rw (take_more xs i d low) (all_and P (take i xs) (get_or xs i d) h p)

-- of the next: where each that passed is replaced by what it implies
all_weaken : {X : Type 0} (P Q : X → Type 0) (xs : List X) → ((x : X) → P x → Q x) → All P xs → All Q xs
all_weaken P Q xs f h k d low = f (get_or xs k d) (h k d low)

is_false : (b : Bool) → IsTrue b → b ≡ false → ⊥
is_false b holds e = cc

-- the next tag does not fit
pub passed : (offered : List Language) (range : List ℕ) (i : ℕ) (best : Option ℕ) (longest : ℕ) (d : Language) (r : Bool)
    → i < length offered → IsTrue r ↔ Fits range (get_or offered i d).tag.now → r ≡ false
    → LongestSoFar offered range i best longest → LongestSoFar offered range (i + 1) best longest
passed offered range i None longest d r low test off h =
    all_more (λ language. ¬ (Fits range language.tag.now)) offered i d low h (λ f. is_false r (test.1 f) off)
passed offered range i (Some place) longest d r low test off h = record {
  language = h.language;
  there = h.there;
  fits = h.fits;
  long = h.long;
  all = all_more (λ other. Fits range other.tag.now → length other.tag.now ≤ longest) offered i d low h.all (λ f. absurd (is_false r (test.1 f) off));
  first = h.first;
}

-- the next tag is no longer than the one so far
pub shorter : (offered : List Language) (range : List ℕ) (i : ℕ) (best : Option ℕ) (longest : ℕ) (d : Language) (r : Bool)
    → i < length offered
    → MatchOption best (IsTrue r) (λ _. IsTrue r ↔ (longest < length (get_or offered i d).tag.now)) → r ≡ false
    → LongestSoFar offered range i best longest → LongestSoFar offered range (i + 1) best longest
shorter offered range i None longest d r low test off h = absurd (is_false r test off)
shorter offered range i (Some place) longest d r low test off h =
    let short : ¬ (longest < length (get_or offered i d).tag.now) = λ more. is_false r (test.1 more) off in
    record {
      language = h.language;
      there = h.there;
      fits = h.fits;
      long = h.long;
      all = all_more (λ other. Fits range other.tag.now → length other.tag.now ≤ longest) offered i d low h.all (λ _. omega arith);
      first = h.first;
    }

-- the next tag fits, and is the first that does or longer
pub longer : (offered : List Language) (range : List ℕ) (i : ℕ) (best : Option ℕ) (longest : ℕ) (d : Language) (r : Bool)
    → i < length offered → Fits range (get_or offered i d).tag.now
    → MatchOption best (IsTrue r) (λ _. IsTrue r ↔ (longest < length (get_or offered i d).tag.now)) → IsTrue r
    → LongestSoFar offered range i best longest → LongestSoFar offered range (i + 1) (Some i) (length (get_or offered i d).tag.now)
longer offered range i None longest d r low fits test holds h =
    let new = length (get_or offered i d).tag.now in
    record {
      language = get_or offered i d;
      there = slice_get-get_or offered i d low;
      fits = fits;
      long = refl;
      all = all_more (λ other. Fits range other.tag.now → length other.tag.now ≤ new) offered i d low
          (all_weaken (λ other. ¬ (Fits range other.tag.now)) (λ other. Fits range other.tag.now → length other.tag.now ≤ new) (take i offered)
          (λ x off f. absurd (off f)) h)
          (λ _. omega arith);
      first = all_weaken (λ other. ¬ (Fits range other.tag.now)) (λ other. Fits range other.tag.now → length other.tag.now < new) (take i offered)
          (λ x off f. absurd (off f)) h;
    }
longer offered range i (Some place) longest d r low fits test holds h =
    let new = length (get_or offered i d).tag.now in
    let above : longest < length (get_or offered i d).tag.now = test.0 holds in
    record {
      language = get_or offered i d;
      there = slice_get-get_or offered i d low;
      fits = fits;
      long = refl;
      all = all_more (λ other. Fits range other.tag.now → length other.tag.now ≤ new) offered i d low
          (all_weaken (λ other. Fits range other.tag.now → length other.tag.now ≤ longest) (λ other. Fits range other.tag.now → length other.tag.now ≤ new) (take i offered)
          (λ x le f. let below : length x.tag.now ≤ longest = le f in omega arith) h.all)
          (λ _. omega arith);
      first = all_weaken (λ other. Fits range other.tag.now → length other.tag.now ≤ longest) (λ other. Fits range other.tag.now → length other.tag.now < new) (take i offered)
          (λ x le f. let below : length x.tag.now ≤ longest = le f in omega arith) h.all;
    }

-- after the last tag
pub longest_found : (offered : List Language) (range : List ℕ) (i : ℕ) (best : Option ℕ) (longest : ℕ)
    → length offered ≤ i → LongestSoFar offered range i best longest → IfSome best (IsLookup offered range)
longest_found offered range i None longest low h = search rules
longest_found offered range i (Some place) longest low h = record {
  language = h.language;
  there = h.there;
  fits = h.fits;
  longest = rw h.long (rw (take_all i offered low) at h.all);
  first = rw h.long h.first;
}

pub none_found : (offered : List Language) (range : List ℕ) (i : ℕ) (best : Option ℕ) (longest : ℕ)
    → length offered ≤ i → LongestSoFar offered range i best longest → IfNone best (HasNone offered range)
none_found offered range i None longest low h = rw (take_all i offered low) at h
none_found offered range i (Some place) longest low h = search rules

-- one more range was seen
seen_more : (ranges : List Range) (i : ℕ) (d : Range) → i < length ranges
    → map want_of (take (i + 1) ranges) ≡ map want_of (take i ranges) ++ want_of (get_or ranges i d) ∷ []
seen_more ranges i d low = ap (λ l. map want_of l) (take_more ranges i d low) ∙ map-append want_of (take i ranges) (get_or ranges i d ∷ [])

pub on_seen : (ranges : List Range) (offered : List Language) (i : ℕ) (old new : Best) (d : Range) → i < length ranges
    → IsBestWith offered (want_of (get_or ranges i d) ∷ []) old new → BestSoFar ranges offered i old → BestSoFar ranges offered (i + 1) new
on_seen ranges offered i old new d low more h = subst (λ (seen : List Want). IsBestOf seen offered new) (sym (seen_more ranges i d low)) (more _ h)

-- what was best stays so, behind one more that is no better
stays : (seen : List Want) (offered : List Language) (place : ℕ) (x : Want) (best : IsBest seen offered place)
    → (IsAsked offered x → x.1 ≤ best.want.1) → IsBest (seen ++ x ∷ []) offered place
stays seen offered place x best no_better = record {
  want = best.want;
  before = best.before;
  after = best.after ++ x ∷ [];
  parts = ap (λ l. l ++ x ∷ []) best.parts ∙ append_assoc best.before (best.want ∷ best.after) (x ∷ []);
  wanted = best.wanted;
  lookup = best.lookup;
  first = best.first;
  greatest = all_and (λ other. IsAsked offered other → other.1 ≤ best.want.1) best.after x best.greatest no_better;
}

pub no_heavier : (seen : List Want) (offered : List Language) (best : Option ℕ) (weight : ℕ) (x : Want) → x.1 ≤ weight
    → Weighs seen offered best weight → Weighs (seen ++ x ∷ []) offered best weight
unfolding stays
no_heavier seen offered None weight x light h = (
  h.0,
  all_and (λ want. ¬ (IsAsked offered want)) seen x h.1
      (λ asked. let above : 0 < x.1 = asked.0 in let nothing : weight ≡ 0 = h.0 in omega arith),
)
no_heavier seen offered (Some place) weight x light h =
    let is : h.0.want.1 ≡ weight = h.1 in
    (stays seen offered place x h.0 (λ _. omega arith), h.1)

pub in_vain : (seen : List Want) (offered : List Language) (best : Option ℕ) (weight : ℕ) (x : Want) → HasNone offered x.0
    → Weighs seen offered best weight → Weighs (seen ++ x ∷ []) offered best weight
unfolding stays
in_vain seen offered None weight x unmet h = (h.0, all_and (λ want. ¬ (IsAsked offered want)) seen x h.1 (λ asked. asked.1 unmet))
in_vain seen offered (Some place) weight x unmet h = (stays seen offered place x h.0 (λ asked. absurd (asked.1 unmet)), h.1)

-- all that were asked for weigh less than this
all_less : (seen : List Want) (offered : List Language) (place : ℕ) (weight : ℕ) (best : IsBest seen offered place) → best.want.1 < weight
    → All (λ other. IsAsked offered other → other.1 < weight) seen
all_less seen offered place weight best low =
    subst (λ (l : List Want). All (λ other. IsAsked offered other → other.1 < weight) l) (sym best.parts)
    (All-append (λ other. IsAsked offered other → other.1 < weight) best.before (best.want ∷ best.after)
    (all_weaken (λ other. IsAsked offered other → other.1 < best.want.1) (λ other. IsAsked offered other → other.1 < weight) best.before
    (λ x less asked. let below : x.1 < best.want.1 = less asked in omega arith) best.first)
    (All-cons (λ other. IsAsked offered other → other.1 < weight) best.want best.after (λ _. low)
    (all_weaken (λ other. IsAsked offered other → other.1 ≤ best.want.1) (λ other. IsAsked offered other → other.1 < weight) best.after
    (λ x le asked. let below : x.1 ≤ best.want.1 = le asked in omega arith) best.greatest)))

pub is_heavier : (seen : List Want) (offered : List Language) (best : Option ℕ) (weight : ℕ) (x : Want) (place : ℕ) → weight < x.1
    → IsLookup offered x.0 place → Weighs seen offered best weight → Weighs (seen ++ x ∷ []) offered (Some place) x.1
is_heavier seen offered None weight x place heavy lookup h = (
  record {
    want = x;
    before = seen;
    after = [];
    parts = refl;
    wanted = omega arith;
    lookup = lookup;
    first = all_weaken (λ want. ¬ (IsAsked offered want)) (λ other. IsAsked offered other → other.1 < x.1) seen (λ y off asked. absurd (off asked)) h.1;
    greatest = All-nil (λ other. IsAsked offered other → other.1 ≤ x.1);
  },
  refl,
)
is_heavier seen offered (Some before) weight x place heavy lookup h =
    let is : h.0.want.1 ≡ weight = h.1 in (
      record {
        want = x;
        before = seen;
        after = [];
        parts = refl;
        wanted = omega arith;
        lookup = lookup;
        first = all_less seen offered before x.1 h.0 (omega arith);
        greatest = All-nil (λ other. IsAsked offered other → other.1 ≤ x.1);
      },
      refl,
    )

-- after the last range
of_weighed : (seen : List Want) (offered : List Language) (best : Option ℕ) (weight : ℕ) → Weighs seen offered best weight → IsPicked seen offered best
of_weighed seen offered None weight h = h.1
of_weighed seen offered (Some place) weight h = h.0

pub picked : (ranges : List Range) (offered : List Language) (i : ℕ) (best : Best)
    → length ranges ≤ i → BestSoFar ranges offered i best → IsPicked (map want_of ranges) offered best.place
picked ranges offered i best low h =
    subst (λ (l : List Range). IsPicked (map want_of l) offered best.place) (take_all i ranges low) (of_weighed _ offered best.place best.weight h)

-- of a field, of which this is left: the best of the ranges that were read
abbrev pub BestBefore : List ℕ → List Language → Option (List ℕ) → Best → Type 0
BestBefore field offered rest best = (seen : List Want) × (seen ++ wants_left rest ≡ wants_in field) × IsBestOf seen offered best

-- nothing was read
pub before_all : (field : List ℕ) (offered : List Language) → BestBefore field offered (Some field) (record { place = None; weight = 0 })
before_all field offered = ([], refl, (refl, All-nil (λ want. ¬ (IsAsked offered want))))

-- an element is of the grammar, or is not
pub with_range : (offered : List Language) (element : List ℕ) (r : Option Range) (range : Range) (old new : Best) → want_from r ≡ want_in element → r ≡ Some range
    → IsBestWith offered (want_of range ∷ []) old new → IsBestWith offered (want_in element) old new
with_range offered element r range old new told is more =
    subst (λ (wants : List Want). IsBestWith offered wants old new) (sym (ap (λ o. want_from o) is) ∙ told) more

pub with_none : (offered : List Language) (element : List ℕ) (r : Option Range) (best : Best) → want_from r ≡ want_in element → r ≡ None
    → IsBestWith offered (want_in element) best best
with_none offered element r best told is = λ seen h.
    subst (λ (l : List Want). IsBestOf l offered best) (sym (append-nil seen) ∙ ap (λ wants. seen ++ wants) (sym (ap (λ o. want_from o) is) ∙ told)) h

-- one more element was read, the first of what was left before
pub element_more : (field : List ℕ) (offered : List Language) (text element : List ℕ) (left after : Option (List ℕ)) (old new : Best)
    → left ≡ Some text → element ≡ (split_once 44 text).0 → after ≡ (split_once 44 text).1
    → IsBestWith offered (want_in element) old new → BestBefore field offered left old → BestBefore field offered after new
element_more field offered text element left after old new is first rest more (seen, whole, h) = (
  seen ++ want_in element,
  one_more seen (want_in element) (wants_in text) (wants_in field) (wants_left after) (ap (λ some. seen ++ wants_left some) (sym is) ∙ whole)
      (wants_first text ∙ ap (λ piece. want_in piece ++ wants_left (split_once 44 text).1) (sym first) ∙ ap (λ some. want_in element ++ wants_left some) (sym rest)),
  more seen h,
)

-- nothing is left
pub asked : (field : List ℕ) (offered : List Language) (rest : Option (List ℕ)) (best : Best) → rest ≡ None → BestBefore field offered rest best
    → IsAskedBy field offered best.place
asked field offered rest best is (seen, whole, h) =
    subst (λ (l : List Want). IsPicked l offered best.place) (sym (append-nil seen) ∙ ap (λ left. seen ++ wants_left left) (sym is) ∙ whole)
    (of_weighed seen offered best.place best.weight h)
