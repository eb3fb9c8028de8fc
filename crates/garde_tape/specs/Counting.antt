-- The place that the scan keeps is the one that counting gives.
use Rattle.std.proofs.Common.{◌≡◌, ℕ, ◌+◌, ◌==◌, List, [], ◌∷◌, ◌++◌, take, reverse, Bool, true, false, cond, not, refl, sym, ap, ap₂, ◌∙◌, arith}
use Rattle.std.proofs.lemmas.List.{reverse-append, reverse-reverse}
use Rattle.std.specs.Prelude.{count_by, take_while}
use Rattle.std.proofs.lemmas.List.Sums.{sum_by-cons, take_while-cons}
use Rattle.garde_tape.specs.declared.place.Place.{Place}
use Rattle.garde_tape.specs.Place.{goes_on, text_start, past, place_after, line_feeds, last_line, characters, place_at}

abbrev at_line : ℕ → ℕ → Place
at_line l c = record { line = l; column = c }

after_more : (p : Place) (xs : List ℕ) (b : ℕ) → place_after p (xs ++ b ∷ []) ≡ past (place_after p xs) b
after_more p [] b = refl
after_more p (x ∷ xs) b = after_more (past p x) xs b

count_more : (p : ℕ → Bool) (xs : List ℕ) (b : ℕ) → count_by p (xs ++ b ∷ []) ≡ count_by p xs + cond (p b) 1 0
count_more p [] b = omega (arith, sum_by-cons (λ y. cond (p y) 1 0) b [])
count_more p (x ∷ xs) b =
    omega (arith, sum_by-cons (λ y. cond (p y) 1 0) x (xs ++ b ∷ []), sum_by-cons (λ y. cond (p y) 1 0) x xs, count_more p xs b)

characters_if : (c : Bool) (b : ℕ) (w : List ℕ) → characters (cond c (b ∷ w) []) ≡ cond c (cond (not (goes_on b)) 1 0 + characters w) 0
characters_if true b w = sum_by-cons (λ y. cond (not (goes_on y)) 1 0) b w
characters_if false b w = refl

stepped : (e g : Bool) (n m : ℕ) → cond e (at_line (1 + n + 1) 1) (cond g (at_line (1 + n) (1 + m)) (at_line (1 + n) (1 + m + 1))) ≡ at_line (1 + (n + cond e 1 0)) (1 + cond (not e) (cond (not g) 1 0 + m) 0)
stepped true g n m = let a : 1 + n + 1 ≡ 1 + (n + 1) = omega arith in ap (λ l. at_line l 1) a
stepped false true n m = let a : 1 + n ≡ 1 + (n + 0) = omega arith in let b : 1 + m ≡ 1 + (0 + m) = omega arith in ap₂ at_line a b
stepped false false n m = let a : 1 + n ≡ 1 + (n + 0) = omega arith in let b : 1 + m + 1 ≡ 1 + (1 + m) = omega arith in ap₂ at_line a b

abbrev counted_back : List ℕ → Place
counted_back ys = at_line (1 + line_feeds (reverse ys)) (1 + characters (take_while (λ b. not (b == 10)) ys))

counts_back : (ys : List ℕ) → place_after text_start (reverse ys) ≡ counted_back ys
counts_back [] = refl
counts_back (b ∷ ys) =
    let split = reverse-append (b ∷ []) ys in
    let w = take_while (λ x. not (x == 10)) ys in
    let lines : line_feeds (reverse (b ∷ ys)) ≡ line_feeds (reverse ys) + cond (b == 10) 1 0 = ap line_feeds split ∙ count_more (λ x. x == 10) (reverse ys) b in
    let columns : characters (take_while (λ x. not (x == 10)) (b ∷ ys)) ≡ cond (not (b == 10)) (cond (not (goes_on b)) 1 0 + characters w) 0 =
    ap characters (take_while-cons (λ x. not (x == 10)) b ys) ∙ characters_if (not (b == 10)) b w in
    ap (place_after text_start) split ∙ after_more text_start (reverse ys) b ∙ ap (λ p. past p b) (counts_back ys)
    ∙ stepped (b == 10) (goes_on b) (line_feeds (reverse ys)) (characters w)
    ∙ sym (ap₂ (λ l c. at_line (1 + l) (1 + c)) lines columns)

pub counts : (text : List ℕ) (offset : ℕ) → place_after text_start (take offset text) ≡ place_at text offset
counts text offset =
    let bs = take offset text in
    ap (place_after text_start) (sym (reverse-reverse bs)) ∙ counts_back (reverse bs) ∙ ap (λ xs. at_line (1 + line_feeds xs) (1 + characters (last_line bs))) (reverse-reverse bs)
