-- A plain URL is a URL.
use Rattle.std.proofs.Common.{◌≡◌, ℕ, zero, suc, ◌+◌, ◌-◌, ◌<◌, ◌≤◌, Bool, true, false, not, ◌&&◌, ◌||◌, ◌==◌, ltb, List, [], ◌∷◌, ◌++◌, length, get_or, take, drop, Some, None, Ok, All, sym, refl, ap, subst, ◌∙◌, inl, inr, ◌⊎◌, ⊎_elim, append_assoc, append-nil, arith, length-append, take-append-drop, take_all, take_at, lit<}
use Rattle.std.specs.Prelude.{Option, bytes_eq, codes, filter, reverse}
use Rattle.std.specs.List.{prefix_len, suffix_len}
use Rattle.std.proofs.lemmas.Bool.{cond-true, cond-false, cases_Bool, lt-leb, true≢false, ne_eqb}
use Rattle.std.proofs.lemmas.Bool.Decides.{nat_tests}
use Rattle.std.proofs.lemmas.List.{get_or-reverse, get_or_append_left}
use Rattle.std.proofs.Math.Seq.{take-append-add}
use Rattle.std.proofs.lemmas.List.Sums.{prefix_len_passes}
use Rattle.std.proofs.lemmas.List.Elements.{All-nil, All-cons, All-head, All-tail, All-weaker, All-append, filter-append}
use Rattle.std.proofs.lemmas.Option.{same_Some}
use Rattle.std.proofs.lemmas.Slice.Eq.{bytes_eq-Decides}
use Rattle.url.specs.declared.host.Host.TheVariants.{Domain}
use Rattle.url.specs.declared.scheme.SchemeType.TheVariants.{SpecialNotFile}
use Rattle.url.specs.Input.{is_c0_control_or_space, is_tab_or_new_line, trim_c0_control_and_space, strip_tabs_and_new_lines, split_once}
use Rattle.url.specs.Scheme.{IsScheme, default_port, scheme_type, scheme_len, is_slash}
use Rattle.url.specs.Host.{parse_host, IsHostOf}
use Rattle.url.specs.Parts.{Parts}
use Rattle.url.specs.Path.{segment_len, parse_path_start}
use Rattle.url.specs.Head.{with_authority}
use Rattle.url.specs.Parser.{Parsed, and_then, parse_port, parse_authority, host_len, with_path, after_double_slash, parse_body, with_tail, before_tail, parse_parts, parse_by_scheme, split_scheme, parse_url}
use Rattle.url.proofs.InputLemmas.{IsNot, Passes, StopsAt, prefix_len_at, rsplit_once_none, filter_all, is_empty_nonempty, All_from_list_all}
use Rattle.url.proofs.HostRoundTrip.{parse_special_host-host_text, host_len-host_text}
use Rattle.url.proofs.RoundTrip.{split_own_scheme}
use Rattle.garde_engines.specs.PlainUrls.{is_plain_byte, has_plain_host, after_scheme, is_plain_rest, is_plain_url}
use Rattle.garde_engines.specs.Urls.{IsUrl}
use Rattle.garde_engines.proofs.PlainHostLemmas.{EndsHost, host_cut, scan_is, is_domain, is_some_host}

-- the parser gives parts
abbrev IsRead : Parsed Parts → Type 0
IsRead parsed = (url : Parts) × (parsed ≡ Ok url)

-- ---- the authority

authority : (scheme host : List ℕ) → scheme_type scheme ≡ SpecialNotFile → All (Passes is_plain_byte) host → IsHostOf SpecialNotFile (Domain host) → IsRead (parse_authority scheme host)
unfolding parse_authority parse_port split_once
authority scheme host kind plain valid =
    let sign = rsplit_once_none 64 host (All-weaker (Passes is_plain_byte) (IsNot 64) (λ b passes e. grind (arith, nat_tests)) host plain) in
    let len = ap (λ l. host_len false l) (sym (append-nil host)) ∙ host_len-host_text SpecialNotFile (Domain host) [] valid (inl refl) in
    let short : ltb (length host) (length host) ≡ false = grind (arith, nat_tests) in
    let front = take_all (length host) host (omega arith) in
    let some = is_empty_nonempty host valid.1 in
    let parses = ap (λ k. parse_host k host) kind ∙ parse_special_host-host_text (Domain host) valid in
    (with_authority scheme [] [] (Domain host) None, rw (sign, len, short, front, some, parses) refl)

after_slashes : (scheme host tail : List ℕ) → scheme_type scheme ≡ SpecialNotFile → All (Passes is_plain_byte) host → IsHostOf SpecialNotFile (Domain host) → EndsHost tail → IsRead (after_double_slash scheme (host ++ tail))
unfolding after_double_slash
after_slashes scheme host tail kind plain valid ends =
    let head = authority scheme host kind plain valid in
    let test = λ (b : ℕ). not (is_slash (scheme_type scheme) b) in
    let whole = All-weaker (Passes is_plain_byte) (Passes test) (λ b passes. grind (arith, nat_tests)) host plain in
    let len = prefix_len_at test host tail whole (stops (scheme_type scheme) tail ends) in
    let front = ap (λ n. take n (host ++ tail)) len ∙ take_at host tail _ refl in
    let path = parse_path_start (scheme_type scheme) [] (drop (segment_len (scheme_type scheme) (host ++ tail)) (host ++ tail)) in
    (with_path head.0 path, ap (λ r. and_then r (λ h. Ok (with_path h path))) (ap (parse_authority scheme) front ∙ head.1))
  where
    stops : (k : _) (xs : List ℕ) → EndsHost xs → StopsAt (λ b. not (is_slash k b)) xs
    stops k [] ends = tt
    stops k (b ∷ xs) ends = rw ends refl

-- ---- the input

-- above a space, and neither `#` nor `?`
abbrev is_front_byte : ℕ → Bool
is_front_byte b = ltb 32 b && not (b == 35 || b == 63)

-- the front, and then nothing or what begins with `/`
abbrev Begins : List ℕ → List ℕ → Type 0
Begins front xs = (tail : List ℕ) × EndsHost tail × (xs ≡ front ++ tail)

ends_take : (n : ℕ) (tail : List ℕ) → EndsHost tail → EndsHost (take n tail)
ends_take zero tail ends = tt
ends_take (suc n) [] ends = tt
ends_take (suc n) (b ∷ tail) ends = ends

-- no byte of the front is trimmed from the end
few_trimmed : (front tail : List ℕ) → All (Passes is_front_byte) front → 0 < length front → suffix_len is_c0_control_or_space (front ++ tail) ≤ length tail
few_trimmed front tail bytes some =
    ⊎_elim
    (λ more.
    let xs = front ++ tail in
    let len = length-append front tail in
    let below : length tail < suffix_len is_c0_control_or_space xs = grind (arith, nat_tests) in
    let passes = prefix_len_passes is_c0_control_or_space (reverse xs) (length tail) 0 below in
    let back = get_or-reverse xs (length tail) 0 (omega arith) in
    let at : length xs - 1 - length tail ≡ length front - 1 = omega arith in
    let read = back ∙ ap (λ i. get_or xs i 0) at ∙ get_or_append_left front tail 0 (length front - 1) (omega arith) in
    let byte = bytes (length front - 1) 0 (omega arith) in
    absurd (let trimmed = rw read at passes in true≢false (grind (arith, nat_tests))))
    (λ less. grind (arith, nat_tests))
    (cases_Bool (ltb (length tail) (suffix_len is_c0_control_or_space (front ++ tail))))

trimmed : (b : ℕ) (front xs : List ℕ) → All (Passes is_front_byte) (b ∷ front) → Begins (b ∷ front) xs → Begins (b ∷ front) (trim_c0_control_and_space xs)
unfolding trim_c0_control_and_space
trimmed b front xs bytes (tail, ends, cut) =
    let whole = b ∷ front ++ tail in
    let first = All-head (Passes is_front_byte) b front bytes in
    let above : 32 < b = grind (arith, nat_tests) in
    let start : prefix_len is_c0_control_or_space whole ≡ 0 = cond-false _ _ _ (lt-leb b 32 above) in
    let few = few_trimmed (b ∷ front) tail bytes (omega arith) in
    let len = length-append (b ∷ front) tail in
    let n = length tail - suffix_len is_c0_control_or_space whole in
    let count : length whole - suffix_len is_c0_control_or_space whole ≡ length (b ∷ front) + n = omega arith in
    (take n tail, ends_take n tail ends, rw (cut, start) (ap (λ k. take k whole) count ∙ take-append-add (b ∷ front) tail n))

stripped : (front xs : List ℕ) → All (Passes is_front_byte) front → Begins front xs → Begins front (strip_tabs_and_new_lines xs)
unfolding strip_tabs_and_new_lines
stripped front xs bytes (tail, ends, cut) =
    let test = λ (b : ℕ). not (is_tab_or_new_line b) in
    let kept = filter_all test front (All-weaker (Passes is_front_byte) (Passes test) (λ b passes. grind (arith, nat_tests)) front bytes) in
    (filter test tail, ends_filter tail ends, ap (filter test) cut ∙ filter-append test front tail ∙ ap (λ l. l ++ filter test tail) kept)
  where
    ends_filter : (ys : List ℕ) → EndsHost ys → EndsHost (filter (λ b. not (is_tab_or_new_line b)) ys)
    ends_filter [] ends = tt
    ends_filter (b ∷ ys) ends = rw ends refl

split_front : (s : ℕ) (front tail : List ℕ) → All (IsNot s) front → (split_once s (front ++ tail)).0 ≡ front ++ (split_once s tail).0
unfolding split_once
split_front s [] tail none = refl
split_front s (b ∷ front) tail none =
    ap (λ (r : List ℕ × Option (List ℕ)). r.0) (cond-false _ _ _ (ne_eqb b s (All-head (IsNot s) b front none))) ∙ ap (λ l. b ∷ l) (split_front s front tail (All-tail (IsNot s) b front none))

split : (s : ℕ) (front xs : List ℕ) → All (IsNot s) front → Begins front xs → Begins front (split_once s xs).0
unfolding split_once
split s front xs none (tail, ends, cut) =
    ((split_once s tail).0, ends_split tail ends, ap (λ l. (split_once s l).0) cut ∙ split_front s front tail none)
  where
    ends_split : (ys : List ℕ) → EndsHost ys → EndsHost (split_once s ys).0
    ends_split [] ends = tt
    ends_split (b ∷ ys) ends = ⊎_elim (λ same. rw same tt) (λ other. rw other ends) (cases_Bool (b == s))

-- ---- the whole

-- the scheme, `://` and the host
abbrev front_of : List ℕ → List ℕ → List ℕ
front_of scheme host = scheme ++ 58 ∷ 47 ∷ 47 ∷ host

no_slash_first : (host tail : List ℕ) → 0 < length host → All (Passes is_plain_byte) host → StopsAt (λ b. b == 47 || b == 92) (host ++ tail)
no_slash_first [] tail some plain = absurd (omega arith)
no_slash_first (b ∷ host) tail some plain = let passes = All-head (Passes is_plain_byte) b host plain in grind (arith, nat_tests)

body : (scheme host tail : List ℕ) → scheme_type scheme ≡ SpecialNotFile → All (Passes is_plain_byte) host → IsHostOf SpecialNotFile (Domain host) → EndsHost tail → IsRead (parse_body scheme None (47 ∷ 47 ∷ (host ++ tail)))
unfolding parse_body
body scheme host tail kind plain valid ends =
    let test = λ (b : ℕ). b == 47 || b == 92 in
    let slashes = prefix_len_at test (47 ∷ 47 ∷ []) (host ++ tail) (All-cons (Passes test) 47 (47 ∷ []) refl (All-cons (Passes test) 47 [] refl (All-nil (Passes test)))) (no_slash_first host tail valid.1 plain) in
    let read = after_slashes scheme host tail kind plain valid ends in
    (read.0, rw (kind, slashes) read.1)

parts : (scheme text : List ℕ) (query fragment : Option (List ℕ)) → IsRead (parse_body scheme None text) → IsRead (parse_parts scheme None text query fragment)
unfolding parse_parts
parts scheme text query fragment (url, read) =
    (with_tail (before_tail url query fragment) query fragment, ap (λ r. and_then r (λ u. Ok (with_tail (before_tail u query fragment) query fragment))) read)

by_scheme : (scheme host xs : List ℕ) (query fragment : Option (List ℕ)) → IsScheme scheme → scheme_type scheme ≡ SpecialNotFile → All (Passes is_plain_byte) host → IsHostOf SpecialNotFile (Domain host) → Begins (front_of scheme host) xs → IsRead (parse_by_scheme (split_scheme xs) None xs query fragment)
by_scheme scheme host xs query fragment is kind plain valid (tail, ends, cut) =
    let spelled = cut ∙ append_assoc scheme (58 ∷ 47 ∷ 47 ∷ host) tail in
    let found = ap split_scheme spelled ∙ split_own_scheme scheme (47 ∷ 47 ∷ (host ++ tail)) is in
    let read = parts scheme (47 ∷ 47 ∷ (host ++ tail)) query fragment (body scheme host tail kind plain valid ends) in
    (read.0, ap (λ s. parse_by_scheme s None xs query fragment) found ∙ ap (λ s. parse_parts s None (47 ∷ 47 ∷ (host ++ tail)) query fragment) is.lower ∙ read.1)

front_bytes : (scheme host : List ℕ) → All (Passes is_front_byte) scheme → All (Passes is_plain_byte) host → All (Passes is_front_byte) (front_of scheme host)
front_bytes scheme host first plain =
    let P = Passes is_front_byte in
    let rest = All-weaker (Passes is_plain_byte) P (λ b passes. grind (arith, nat_tests)) host plain in
    All-append P scheme (58 ∷ 47 ∷ 47 ∷ host) first (All-cons P 58 (47 ∷ 47 ∷ host) refl (All-cons P 47 (47 ∷ host) refl (All-cons P 47 host refl rest)))

by_front : (c : ℕ) (letters text rest : List ℕ) → IsScheme (c ∷ letters) → scheme_type (c ∷ letters) ≡ SpecialNotFile → All (Passes is_front_byte) (c ∷ letters) → text ≡ c ∷ letters ++ 58 ∷ 47 ∷ 47 ∷ rest → has_plain_host rest ≡ true → IsUrl text
unfolding parse_url
by_front c letters text rest is kind first spelled found =
    let cut = host_cut 46 rest (scan_is rest ∙ found) in
    let host = cut.host in
    let valid : IsHostOf SpecialNotFile (Domain host) = (is_domain host cut.plain cut.letter, is_some_host host cut.letter) in
    let front = front_of (c ∷ letters) host in
    let bytes = front_bytes (c ∷ letters) host first cut.plain in
    let mark = λ (s : ℕ) (differs : (b : ℕ) → is_front_byte b ≡ true → IsNot s b). All-weaker (Passes is_front_byte) (IsNot s) differs front bytes in
    let begins : Begins front text = (cut.tail, cut.ends, spelled ∙ ap (λ l. c ∷ letters ++ 58 ∷ 47 ∷ 47 ∷ l) cut.cut ∙ sym (append_assoc (c ∷ letters) (58 ∷ 47 ∷ 47 ∷ host) cut.tail)) in
    let clean = stripped front _ bytes (trimmed c (letters ++ 58 ∷ 47 ∷ 47 ∷ host) text bytes begins) in
    let hash = split 35 front _ (mark 35 (λ b passes e. grind (arith, nat_tests))) clean in
    let question = split 63 front _ (mark 63 (λ b passes e. grind (arith, nat_tests))) hash in
    by_scheme (c ∷ letters) host _ _ _ is kind cut.plain valid question

http : (text rest : List ℕ) → text ≡ codes "http://" ++ rest → has_plain_host rest ≡ true → IsUrl text
unfolding scheme_len scheme_type default_port
http text rest = by_front 104 (116 ∷ 116 ∷ 112 ∷ []) text rest (record { nonempty = lit< tt; whole = refl; lower = refl }) refl (All_from_list_all is_front_byte (codes "http") refl)

https : (text rest : List ℕ) → text ≡ codes "https://" ++ rest → has_plain_host rest ≡ true → IsUrl text
unfolding scheme_len scheme_type default_port
https text rest = by_front 104 (116 ∷ 116 ∷ 112 ∷ 115 ∷ []) text rest (record { nonempty = lit< tt; whole = refl; lower = refl }) refl (All_from_list_all is_front_byte (codes "https") refl)

-- what follows a scheme follows one of the two
abbrev IsAfterScheme : List ℕ → List ℕ → Type 0
IsAfterScheme text rest = (text ≡ codes "http://" ++ rest) ⊎ (text ≡ codes "https://" ++ rest)

spelled_after : (n : ℕ) (word text : List ℕ) → bytes_eq (take n text) word ≡ true → text ≡ word ++ drop n text
spelled_after n word text same = sym (take-append-drop n text) ∙ ap (λ l. l ++ drop n text) ((bytes_eq-Decides (take n text) word).0 same)

scheme_cut : (text rest : List ℕ) → after_scheme text ≡ Some rest → IsAfterScheme text rest
scheme_cut text rest found =
    ⊎_elim
    (λ long. let same = same_Some _ _ (sym (cond-true _ _ _ long) ∙ found) in inr (subst (λ l. text ≡ codes "https://" ++ l) same (spelled_after 8 (codes "https://") text long)))
    (λ other. ⊎_elim
    (λ short. let same = same_Some _ _ (sym (cond-true _ _ _ short) ∙ sym (cond-false _ _ _ other) ∙ found) in inl (subst (λ l. text ≡ codes "http://" ++ l) same (spelled_after 7 (codes "http://") text short)))
    (λ neither. absurd (let none = sym (cond-false _ _ _ neither) ∙ sym (cond-false _ _ _ other) ∙ found in cc))
    (cases_Bool (bytes_eq (take 7 text) (codes "http://"))))
    (cases_Bool (bytes_eq (take 8 text) (codes "https://")))

by_rest : (text : List ℕ) (rest : Option (List ℕ)) → after_scheme text ≡ rest → is_plain_rest rest ≡ true → IsUrl text
by_rest text None found plain = absurd (true≢false (sym plain))
by_rest text (Some rest) found plain = ⊎_elim (λ short. http text rest short plain) (λ long. https text rest long plain) (scheme_cut text rest found)

pub plain_is_url : (text : List ℕ) → is_plain_url text ≡ true → IsUrl text
plain_is_url text plain = by_rest text (after_scheme text) refl plain
