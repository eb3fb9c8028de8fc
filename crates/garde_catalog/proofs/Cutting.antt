-- How a field is cut at its commas and semicolons.
use Rattle.std.proofs.Common.{◌≡◌, ◌≢◌, ◌==◌, ℕ, ◌+◌, ◌<◌, ◌≤◌, Bool, true, false, List, [], ◌∷◌, ◌++◌, length, get_or, take, drop, Option, Some, None, All, refl, sym, ap, ◌∙◌, subst, append_assoc, arith, if◌then◌else◌, take-append-drop}
use Rattle.std.proofs.lemmas.Bool.{cond-true, cond-false, eq-eqb, ne_eqb}
use Rattle.std.proofs.lemmas.List.{drop_more, get_or-take, length-take-le}
use Rattle.std.proofs.lemmas.List.Elements.{All-head, All-tail, All-from_get_or}
use Rattle.garde_catalog.specs.Field.{Want, elements, onto_first, split_once, want_in, wants_in, wants_left, wants_of}

abbrev pub IsNot : ℕ → ℕ → Type 0
IsNot separator b = b ≢ separator

split_once_at : (s : ℕ) (xs ys : List ℕ) → All (IsNot s) xs → split_once s (xs ++ s ∷ ys) ≡ (xs, Some ys)
unfolding split_once
split_once_at s [] ys none = cond-true _ _ _ (eq-eqb s s refl)
split_once_at s (x ∷ xs) ys none =
    cond-false _ _ _ (ne_eqb x s (All-head (IsNot s) x xs none)) ∙ ap (λ r. (x ∷ r.0, r.1)) (split_once_at s xs ys (All-tail (IsNot s) x xs none))

-- there is no separator
pub split_once_none : (s : ℕ) (xs : List ℕ) → All (IsNot s) xs → split_once s xs ≡ (xs, None)
unfolding split_once
split_once_none s [] none = refl
split_once_none s (x ∷ xs) none =
    cond-false _ _ _ (ne_eqb x s (All-head (IsNot s) x xs none)) ∙ ap (λ r. (x ∷ r.0, r.1)) (split_once_none s xs (All-tail (IsNot s) x xs none))

split_around : (xs : List ℕ) (i s : ℕ) → i < length xs → get_or xs i 0 ≡ s → xs ≡ take i xs ++ s ∷ drop (i + 1) xs
split_around xs i s inside here = sym (take-append-drop i xs) ∙ ap (λ l. take i xs ++ l) (drop_more xs i 0 inside ∙ ap (λ b. b ∷ drop (i + 1) xs) here)

reads_in : (P : ℕ → Type 0) (xs : List ℕ) (i : ℕ) → i ≤ length xs → ((k : ℕ) → k < i → P (get_or xs k 0)) → All P (take i xs)
reads_in P xs i within reads =
    All-from_get_or P (take i xs) 0 (λ k inside. let below : k < i = omega (arith, length-take-le i xs within) in subst P (sym (get_or-take i xs k 0 below)) (reads k below))

-- the first separator is in this place
pub split_once_at_first : (s : ℕ) (xs : List ℕ) (i : ℕ) → i < length xs → get_or xs i 0 ≡ s → ((k : ℕ) → k < i → get_or xs k 0 ≢ s)
    → split_once s xs ≡ (take i xs, Some (drop (i + 1) xs))
split_once_at_first s xs i inside here before =
    ap (split_once s) (split_around xs i s inside here) ∙ split_once_at s _ _ (reads_in (IsNot s) xs i (omega arith) before)

abbrev elements_left : Option (List ℕ) → List (List ℕ)
elements_left None = []
elements_left (Some rest) = elements rest

abbrev parted : Bool → ℕ → List ℕ → List ℕ × Option (List ℕ) → List ℕ × Option (List ℕ)
parted t b bytes parts = if t then ([], Some bytes) else (b ∷ parts.0, parts.1)

cut_by : (t : Bool) (b : ℕ) (bytes : List ℕ) (parts : List ℕ × Option (List ℕ)) → elements bytes ≡ parts.0 ∷ elements_left parts.1
    → (if t then [] ∷ elements bytes else onto_first b (elements bytes))
    ≡ (parted t b bytes parts).0 ∷ elements_left (parted t b bytes parts).1
cut_by true b bytes parts ih = refl
cut_by false b bytes parts ih = ap (λ pieces. onto_first b pieces) ih

-- the first element is what stands before the first comma
elements_first : (bytes : List ℕ) → elements bytes ≡ (split_once 44 bytes).0 ∷ elements_left (split_once 44 bytes).1
unfolding elements split_once
elements_first [] = refl
elements_first (b ∷ bytes) = cut_by (b == 44) b bytes (split_once 44 bytes) (elements_first bytes)

wants_behind : (rest : Option (List ℕ)) → wants_of (elements_left rest) ≡ wants_left rest
wants_behind None = refl
wants_behind (Some rest) = refl

-- the ranges of a field are that of its first element, and those behind the first comma
pub wants_first : (bytes : List ℕ) → wants_in bytes ≡ want_in (split_once 44 bytes).0 ++ wants_left (split_once 44 bytes).1
wants_first bytes =
    ap (λ all. wants_of all) (elements_first bytes) ∙ ap (λ more. want_in (split_once 44 bytes).0 ++ more) (wants_behind (split_once 44 bytes).1)

-- so many bytes are left, and one more where something is left
abbrev pub left_of : Option (List ℕ) → ℕ
left_of None = 0
left_of (Some rest) = length rest + 1

shorter_by : (t : Bool) (b : ℕ) (bytes : List ℕ) (parts : List ℕ × Option (List ℕ)) → left_of parts.1 ≤ length bytes
    → left_of (parted t b bytes parts).1 ≤ length (b ∷ bytes)
shorter_by true b bytes parts ih = omega arith
shorter_by false b bytes parts ih = omega arith

-- what is left behind a separator is shorter
pub shorter : (s : ℕ) (bytes : List ℕ) → left_of (split_once s bytes).1 ≤ length bytes
unfolding split_once
shorter s [] = omega arith
shorter s (b ∷ bytes) = shorter_by (b == s) b bytes (split_once s bytes) (shorter s bytes)

-- the ranges of what was read, and those of what is left, after one more element
pub one_more : (read added : List Want) (field all : List Want) (rest : List Want)
    → read ++ field ≡ all → field ≡ added ++ rest → (read ++ added) ++ rest ≡ all
one_more read added field all rest whole cut = append_assoc read added rest ∙ ap (λ l. read ++ l) (sym cut) ∙ whole
