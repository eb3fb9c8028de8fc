-- How the bytes of a list are given, and what that leaves.
use Rattle.std.proofs.Common.{◌≡◌, ◌<◌, ℕ, List, [], ◌∷◌, ◌++◌, take, drop, length, Option, Some, None, get_or, refl, sym, arith, true, false, ◌≤◌}
use Rattle.std.proofs.lemmas.List.{append-nil, length-take}
use borrow.Author.Tests.{eqb-true}
use Rattle.std.specs.Prelude.{◌==◌, option_map, ⊤, if◌then◌else◌}
use Rattle.std.specs.Io.KnownBytes.{IsAtEnd, Keeps, prepend_known}
use Rattle.csv.specs.Reading.{is_bom, strip_bom}
use Rattle.csv.proofs.ReadFacts.{strip-short}
use Rattle.garde_csv.specs.Quotes.{Seen, seen_in}

-- a part of a buffer that is empty, where it is all that is left
pub none-left : (left part : List ℕ) → part ≡ left → (length part == 0) ≡ true → left ≡ []
none-left left [] e t = sym e
none-left left (c ∷ rest) e t = let none : length (c ∷ rest) ≡ 0 = eqb-true (length (c ∷ rest)) 0 t in absurd (omega arith)

-- three bytes that are a byte order mark
pub head-marked : (buf : List ℕ) → 3 ≤ length buf → is_bom (get_or buf 0 0) (get_or buf 1 0) (get_or buf 2 0) ≡ true
    → drop 3 (take 3 buf) ≡ strip_bom (drop 0 (take 3 buf))
unfolding strip_bom
head-marked [] h e = absurd (omega arith)
head-marked (a ∷ []) h e = absurd (omega arith)
head-marked (a ∷ b ∷ []) h e = absurd (omega arith)
head-marked (a ∷ b ∷ c ∷ rest) h e = rw e refl

-- three bytes that are none
pub head-unmarked : (buf : List ℕ) → 3 ≤ length buf → is_bom (get_or buf 0 0) (get_or buf 1 0) (get_or buf 2 0) ≡ false
    → drop 0 (take 3 buf) ≡ strip_bom (drop 0 (take 3 buf))
unfolding strip_bom
head-unmarked [] h e = absurd (omega arith)
head-unmarked (a ∷ []) h e = absurd (omega arith)
head-unmarked (a ∷ b ∷ []) h e = absurd (omega arith)
head-unmarked (a ∷ b ∷ c ∷ rest) h e = rw e refl

-- fewer bytes than three
pub head-short : (buf : List ℕ) (filled : ℕ) → filled < 3 → drop 0 (take filled buf) ≡ strip_bom (drop 0 (take filled buf))
head-short buf filled lt =
    let size = length-take filled buf in
    sym (strip-short (take filled buf) (omega arith))

-- a byte order mark stands in the first three bytes
pub strip-front : (l rest : List ℕ) → length l ≡ 3 → strip_bom (l ++ rest) ≡ strip_bom l ++ rest
unfolding strip_bom
strip-front [] rest e = cc e
strip-front (a ∷ []) rest e = cc e
strip-front (a ∷ b ∷ []) rest e = cc e
strip-front (a ∷ b ∷ c ∷ []) rest e = elim (is_bom a b c) as (λ t. (if t then rest else a ∷ b ∷ c ∷ rest) ≡ (if t then [] else a ∷ b ∷ c ∷ []) ++ rest) [ true ↦ refl | false ↦ refl ]
strip-front (a ∷ b ∷ c ∷ d ∷ more) rest e = absurd (omega (arith, e))

-- a text that is shorter
all-short : (xs ys head : List ℕ) → head ++ ys ≡ [] ++ xs → ys ≡ [] → length head < 3 → strip_bom head ++ ys ≡ strip_bom xs
all-short xs ys head k nil lt = rw (← k, nil, append-nil head, strip-short head lt) (append-nil head)

-- the first three bytes, or all that there are, without a byte order mark
pub without-mark : (before left : Option (List ℕ)) (head : List ℕ) → Keeps (prepend_known [] before) (prepend_known head left)
    → (length head < 3 → IsAtEnd left) → length head ≤ 3 → Keeps (option_map strip_bom before) (prepend_known (strip_bom head) left)
without-mark None left head k end le = tt
without-mark (Some xs) None head k end le = absurd k
without-mark (Some xs) (Some ys) [] k end le = all-short xs ys [] k (end (omega arith)) (omega arith)
without-mark (Some xs) (Some ys) (a ∷ []) k end le = all-short xs ys (a ∷ []) k (end (omega arith)) (omega arith)
without-mark (Some xs) (Some ys) (a ∷ b ∷ []) k end le = all-short xs ys (a ∷ b ∷ []) k (end (omega arith)) (omega arith)
without-mark (Some xs) (Some ys) (a ∷ b ∷ c ∷ []) k end le = rw (← k) (sym (strip-front (a ∷ b ∷ c ∷ []) ys refl))
without-mark (Some xs) (Some ys) (a ∷ b ∷ c ∷ d ∷ more) k end le = absurd (omega (arith, le))

-- what is seen of the record that was begun is what will be seen from here on
abbrev pub SeesOn : Seen → Option (List ℕ) → Seen → Option (List ℕ) → Type 0
SeesOn a None b now = ⊤
SeesOn a (Some xs) b None = ⊥
SeesOn a (Some xs) b (Some ys) = seen_in a xs ≡ seen_in b ys
