-- What stands in an escaped text.
use Rattle.std.proofs.Common.{◌≡◌, ℕ, zero, suc, ◌+◌, ◌/◌, ◌%◌, ◌<◌, Bool, true, false, ◌==◌, cond, List, [], ◌∷◌, ◌++◌, length, get_or, inl, inr, refl, sym, ap₂, ◌∙◌, subst, arith, append-nil}
use Rattle.std.specs.Char.{encode_utf8}
use Rattle.std.specs.Fmt.{digits, digits_onto, digit_glyph}
use Rattle.std.specs.List.{flat_map}
use Rattle.std.specs.Str.{chars}
use Rattle.std.proofs.lemmas.Bool.{cases_eq}
use Rattle.std.proofs.lemmas.Bool.Decides.{nat_tests}
use Rattle.std.proofs.lemmas.List.Sums.{sum_by-append}
use Rattle.std.proofs.lemmas.Str.{inside_one}
use Rattle.garde_report.specs.declared.error.component.Kind.{Kind}
use Rattle.garde_report.specs.declared.error.component.Kind.TheVariants.{None, Key, Index}
use Rattle.garde_report.specs.Part.{Part}
use Rattle.garde_report.specs.Path.{child_text, root_text, part_text}
use Rattle.garde_report.specs.Report.{entry_text}
use Rattle.garde_problem.specs.Escaped.{is_acting, escape_letter, escaped_char, escaped_text, escaped_part, escaped_path, escaped_path_text, escaped_report_text}
use Rattle.garde_problem.specs.Laws.{line_feeds, FaultsAreLines}

-- ---- texts without line feeds

-- there is no line feed
abbrev IsFree : List ℕ → Type 0
IsFree text = line_feeds text ≡ 0

free-append : (xs ys : List ℕ) → IsFree xs → IsFree ys → IsFree (xs ++ ys)
free-append xs ys x y = sum_by-append (λ b. cond (b == 10) 1 0) xs ys ∙ ap₂ (λ (a b : ℕ). a + b) x y

free-cons : (b : ℕ) (bs : List ℕ) → ¬ (b ≡ 10) → IsFree bs → IsFree (b ∷ bs)
free-cons b bs differs free = free-append (b ∷ []) bs (grind (arith, nat_tests)) free

free_bytes : (xs : List ℕ) → ((k : ℕ) → k < length xs → ¬ (get_or xs k 0 ≡ 10)) → IsFree xs
free_bytes [] none = refl
free_bytes (x ∷ xs) none = free-cons x xs (none 0 (omega arith)) (free_bytes xs (λ k below. none (suc k) (omega arith)))

free_flat_map : {X : Type 0} (f : X → List ℕ) → ((x : X) → IsFree (f x)) → (xs : List X) → IsFree (flat_map f xs)
free_flat_map f each [] = refl
free_flat_map f each (x ∷ xs) = free-append (f x) (flat_map f xs) (each x) (free_flat_map f each xs)

-- a character is written without a line feed, if it is none
free_encoded : (c : ℕ) → ¬ (c ≡ 10) → IsFree (encode_utf8 c)
free_encoded c differs = free_bytes (encode_utf8 c) (λ k below feed.
    differs (inside_one c [] (encode_utf8 c) k (sym (append-nil _)) below (omega arith) ∙ feed))

-- digits are no line feeds
digit_differs : (d : ℕ) → ¬ (digit_glyph false d ≡ 10)
digit_differs d same = grind (arith, nat_tests)

-- the digits go on, or this was the last one
by_end : (P : List ℕ → Type 0) (last : Bool) (ended more : List ℕ) → P ended → P more → P (cond last ended more)
by_end P true ended more one other = one
by_end P false ended more one other = other

free_digits_onto : (k n : ℕ) (acc : List ℕ) → IsFree acc → IsFree (digits_onto k 16 false n acc)
free_digits_onto zero n acc free = free
free_digits_onto (suc k) n acc free =
    let more : IsFree (digit_glyph false (n % 16) ∷ acc) = free-cons (digit_glyph false (n % 16)) acc (digit_differs (n % 16)) free in
    by_end IsFree (n / 16 == 0) _ _ more (free_digits_onto k (n / 16) (digit_glyph false (n % 16) ∷ acc) more)

free_digits : (n : ℕ) → IsFree (digits 16 false n)
unfolding digits
free_digits n = free_digits_onto 64 n [] refl

-- ---- an escaped text has no line feed

free_number : (c : ℕ) → IsFree (92 ∷ 117 ∷ 123 ∷ (digits 16 false c ++ 125 ∷ []))
free_number c = free-append (92 ∷ 117 ∷ 123 ∷ []) (digits 16 false c ++ 125 ∷ []) refl (free-append (digits 16 false c) (125 ∷ []) (free_digits c) refl)

-- a character without a letter of its own is no line feed
free_unlettered : (c : ℕ) → ¬ (c ≡ 10) → (acts : Bool) → IsFree (cond acts (92 ∷ 117 ∷ 123 ∷ (digits 16 false c ++ 125 ∷ [])) (encode_utf8 c))
free_unlettered c differs true = free_number c
free_unlettered c differs false = free_encoded c differs

pub free_char : (c : ℕ) → IsFree (escaped_char c)
free_char c = elim (cases_eq c 92) [
  | inl same ↦ rw same refl
  | inr no_slash ↦ elim (cases_eq c 10) [
    | inl same ↦ rw same refl
    | inr no_feed ↦ elim (cases_eq c 13) [
      | inl same ↦ rw same refl
      | inr no_return ↦ elim (cases_eq c 9) [
        | inl same ↦ rw same refl
        | inr no_tab ↦
            let no_letter : escape_letter c ≡ 0 = grind (arith, nat_tests) in
            subst (λ (letter : ℕ). IsFree (cond (letter == 0) (cond (is_acting c) (92 ∷ 117 ∷ 123 ∷ (digits 16 false c ++ 125 ∷ [])) (encode_utf8 c)) (92 ∷ letter ∷ [])))
            (sym no_letter) (free_unlettered c no_feed (is_acting c))
      ]
    ]
  ]
]

free_text : (text : List ℕ) → IsFree (escaped_text text)
free_text text = free_flat_map escaped_char free_char (chars text)

-- ---- so has an escaped path

free_child : (kind : Kind) (text : List ℕ) → IsFree text → IsFree (child_text kind text)
free_child Index text free = free-append (91 ∷ []) (text ++ 93 ∷ []) refl (free-append text (93 ∷ []) free refl)
free_child Key text free = free-append (46 ∷ []) text refl free
free_child None text free = free

free_root : (kind : Kind) (text : List ℕ) → IsFree text → IsFree (root_text kind text)
free_root Index text free = free_child Index text free
free_root Key text free = free
free_root None text free = free

free_rest : (path : List Part) → IsFree (flat_map part_text (escaped_path path))
free_rest [] = refl
free_rest (p ∷ ps) = free-append (part_text (escaped_part p)) (flat_map part_text (escaped_path ps)) (free_child p.kind (escaped_text p.text) (free_text p.text)) (free_rest ps)

free_path : (path : List Part) → IsFree (escaped_path_text path)
free_path [] = refl
free_path (p ∷ ps) = free-append (root_text p.kind (escaped_text p.text)) (flat_map part_text (escaped_path ps)) (free_root p.kind (escaped_text p.text) (free_text p.text)) (free_rest ps)

-- ---- a report has one for each fault

free_entry : (path : List Part) (message : List ℕ) → IsFree (entry_text (escaped_path path) (escaped_text message))
free_entry path message =
    by_end IsFree (length (escaped_path path) == 0) (escaped_text message) (escaped_path_text path ++ 58 ∷ 32 ∷ escaped_text message) (free_text message)
    (free-append (escaped_path_text path) (58 ∷ 32 ∷ escaped_text message) (free_path path)
    (free-append (58 ∷ 32 ∷ []) (escaped_text message) refl (free_text message)))

line_feeds-append : (xs ys : List ℕ) → line_feeds (xs ++ ys) ≡ line_feeds xs + line_feeds ys
line_feeds-append xs ys = sum_by-append (λ b. cond (b == 10) 1 0) xs ys

pub faults_are_lines : FaultsAreLines
faults_are_lines [] = refl
faults_are_lines (e ∷ es) =
    let text = entry_text (escaped_path e.0) (escaped_text e.1) in
    let free : line_feeds text ≡ 0 = free_entry e.0 e.1 in
    let line : line_feeds (text ++ 10 ∷ []) ≡ line_feeds text + 1 = line_feeds-append text (10 ∷ []) in
    let whole : line_feeds ((text ++ 10 ∷ []) ++ escaped_report_text es) ≡ line_feeds (text ++ 10 ∷ []) + line_feeds (escaped_report_text es) = line_feeds-append (text ++ 10 ∷ []) (escaped_report_text es) in
    let rest : line_feeds (escaped_report_text es) ≡ length es = faults_are_lines es in
    omega (arith, free, line, whole, rest)
