-- A plain host is a domain.
use Rattle.std.proofs.Common.{◌≡◌, ℕ, ◌<◌, true, false, cond, not, ◌&&◌, ◌||◌, ◌==◌, ltb, Bool, List, [], ◌∷◌, ◌++◌, length, Some, None, All, sym, refl, ap, ◌∙◌, ⊎_elim, arith}
use Rattle.std.specs.Prelude.{Option}
use Rattle.std.specs.List.{list_all}
use Rattle.std.specs.Char.{is_digit, is_ascii_digit, to_ascii_lowercase}
use Rattle.std.proofs.lemmas.Bool.{cases_eq, cond-false, and_parts, eq-eqb, ne_eqb}
use Rattle.std.proofs.lemmas.Bool.Decides.{nat_tests}
use Rattle.std.proofs.lemmas.List.Elements.{All-nil, All-cons, All-weaker}
use Rattle.url.specs.declared.sets.TheConstants.{FORBIDDEN_DOMAIN}
use Rattle.url.specs.Input.{is_empty, split_once, rsplit_once, rsplit_step}
use Rattle.url.specs.Ipv4.{ends_in_a_number, parse_number, is_number, last_label_of}
use Rattle.url.specs.Host.{IsDomain}
use Rattle.url.proofs.InputLemmas.{Passes, map_fixed, is_empty_nonempty}
use Rattle.url.proofs.SetLemmas.{kept_from_passes}
use Rattle.garde_engines.specs.PlainUrls.{slash, is_plain_byte, host_of, begins_with_letter, has_plain_host}

-- ---- the label that a text ends in

-- the first byte of the label that the byte stands in, where the byte before stands in a label with
-- this first byte; `.` before the first byte of a label
abbrev pub label_first : ℕ → ℕ → ℕ
label_first first byte = cond (first == 46 || byte == 46) byte first

-- the first byte of the last label
abbrev pub last_first : ℕ → List ℕ → ℕ
last_first first [] = first
last_first first (b ∷ bytes) = last_first (label_first first b) bytes

-- the first byte, and `.` where there is none
abbrev first_or_dot : List ℕ → ℕ
first_or_dot [] = 46
first_or_dot (b ∷ bytes) = b

-- the first byte of the last label where the text is split at its last dot
abbrev split_first : ℕ → Option (List ℕ) → List ℕ → ℕ
split_first first (Some front) back = first_or_dot back
split_first first None back = cond (first == 46) (first_or_dot back) first

last_first_step : (first b : ℕ) (front : Option (List ℕ)) (back : List ℕ) → split_first first (rsplit_step 46 b front back).0 (rsplit_step 46 b front back).1 ≡ split_first (label_first first b) front back
last_first_step first b (Some front) back = refl
last_first_step first b None back =
    ⊎_elim
    (λ same. rw (eq-eqb b 46 same) (grind (arith, nat_tests)))
    (λ other. rw (ne_eqb b 46 other) (grind (arith, nat_tests)))
    (cases_eq b 46)

last_first_split : (first : ℕ) (xs : List ℕ) → last_first first xs ≡ split_first first (rsplit_once 46 xs).0 (rsplit_once 46 xs).1
unfolding rsplit_once
last_first_split first [] = grind (arith, nat_tests)
last_first_split first (b ∷ xs) =
    last_first_split (label_first first b) xs ∙ sym (last_first_step first b (rsplit_once 46 xs).0 (rsplit_once 46 xs).1)

-- ---- a host byte by byte

-- whether the bytes are plain up to their end or to a `/`, and the last label before it begins with a letter, where the label that they begin in has this first byte
abbrev pub scan : ℕ → List ℕ → Bool
scan first [] = ltb 96 first
scan first (b ∷ bytes) = cond (b == slash) (ltb 96 first) (is_plain_byte b && scan (label_first first b) bytes)

and_grouped : (a b c : Bool) → (a && (b && c)) ≡ ((a && b) && c)
and_grouped true b c = refl
and_grouped false b c = refl

host_next : (b : ℕ) (bytes : List ℕ) → (b == slash) ≡ false → host_of (b ∷ bytes) ≡ b ∷ host_of bytes
unfolding split_once
host_next b bytes other = ap (λ (cut : List ℕ × Option (List ℕ)). cut.0) (cond-false _ _ _ other)

scan_host : (first : ℕ) (bytes : List ℕ) → scan first bytes ≡ (list_all is_plain_byte (host_of bytes) && ltb 96 (last_first first (host_of bytes)))
unfolding split_once
scan_host first [] = refl
scan_host first (b ∷ bytes) =
    ⊎_elim
    (λ same. rw same refl)
    (λ differs.
    let other = ne_eqb b slash differs in
    rw (host_next b bytes other, other) (ap (λ t. is_plain_byte b && t) (scan_host (label_first first b) bytes) ∙ and_grouped (is_plain_byte b) (list_all is_plain_byte (host_of bytes)) _))
    (cases_eq b slash)

begins_split : (front : Option (List ℕ)) (back : List ℕ) → ltb 96 (split_first 46 front back) ≡ begins_with_letter back
begins_split (Some front) [] = refl
begins_split (Some front) (b ∷ back) = refl
begins_split None [] = refl
begins_split None (b ∷ back) = refl

pub scan_is : (bytes : List ℕ) → scan 46 bytes ≡ has_plain_host bytes
scan_is bytes =
    let host = host_of bytes in
    scan_host 46 bytes ∙ ap (λ t. list_all is_plain_byte host && t)
    (ap (λ n. ltb 96 n) (last_first_split 46 host) ∙ begins_split (rsplit_once 46 host).0 (rsplit_once 46 host).1)

-- ---- no number

-- a label that begins with a letter is no number
abbrev IsNoNumber : List ℕ → Type 0
IsNoNumber last = ((not (is_empty last) && list_all is_ascii_digit last) || is_number (parse_number last)) ≡ false

letter_is_no_number : (b : ℕ) (bytes : List ℕ) → 96 < b → IsNoNumber (b ∷ bytes)
unfolding parse_number
letter_is_no_number b bytes letter =
    let digit : is_ascii_digit b ≡ false = grind (arith, nat_tests) in
    let value : is_digit b 10 ≡ false = grind (arith, nat_tests) in
    rw (is_empty_nonempty (b ∷ bytes) (omega arith), digit, ne_eqb b 48 (λ e. omega arith), value) refl

no_number : (front : Option (List ℕ)) (back : List ℕ) → 96 < split_first 46 front back → IsNoNumber (last_label_of front back)
no_number (Some front) [] letter = absurd (omega arith)
no_number (Some front) (b ∷ back) letter = rw (is_empty_nonempty (b ∷ back) (omega arith)) (letter_is_no_number b back letter)
no_number None [] letter = absurd (omega arith)
no_number None (b ∷ back) letter = letter_is_no_number b back letter

ends_in_a_label : (host : List ℕ) → 96 < last_first 46 host → ends_in_a_number host ≡ false
unfolding ends_in_a_number
ends_in_a_label host letter = no_number (rsplit_once 46 host).0 (rsplit_once 46 host).1 (rw (last_first_split 46 host) at letter)

-- ---- the host and what follows it

-- nothing, or it begins with `/`
abbrev pub EndsHost : List ℕ → Type 0
EndsHost [] = Unit {0}
EndsHost (b ∷ bytes) = b ≡ 47

-- plain bytes whose last label begins with a letter, and what follows them
pub record HostCut (first : ℕ) (bytes : List ℕ) : Type 0 where
  pub host : List ℕ
  pub tail : List ℕ
  pub cut : bytes ≡ host ++ tail
  pub plain : All (Passes is_plain_byte) host
  pub ends : EndsHost tail
  pub letter : 96 < last_first first host

pub host_cut : (first : ℕ) (bytes : List ℕ) → scan first bytes ≡ true → HostCut first bytes
host_cut first [] h =
    record { host = []; tail = []; cut = refl; plain = All-nil (Passes is_plain_byte); ends = tt; letter = grind (arith, nat_tests) }
host_cut first (b ∷ bytes) h =
    ⊎_elim
    (λ slash.
    let letter : (cond true (96 < first) (96 < first)) = grind (arith, nat_tests) in
    record { host = []; tail = b ∷ bytes; cut = refl; plain = All-nil (Passes is_plain_byte); ends = slash; letter = letter })
    (λ other.
    let both = and_parts _ _ (rw (ne_eqb b 47 other) at h) in
    let rest = host_cut (label_first first b) bytes both.1 in
    record { host = b ∷ rest.host; tail = rest.tail; cut = ap (λ l. b ∷ l) rest.cut; plain = All-cons (Passes is_plain_byte) b rest.host both.0 rest.plain; ends = rest.ends; letter = rest.letter })
    (cases_eq b 47)

plain_is_ascii : (b : ℕ) → is_plain_byte b ≡ true → b < 128
plain_is_ascii b passes = grind (arith, nat_tests)

pub is_domain : (host : List ℕ) → All (Passes is_plain_byte) host → 96 < last_first 46 host → IsDomain host
is_domain host plain letter = record {
  allowed = λ k d inside. kept_from_passes is_plain_byte FORBIDDEN_DOMAIN refl _ (plain_is_ascii _ (plain k d inside)) (plain k d inside);
  lower = map_fixed to_ascii_lowercase host (All-weaker (Passes is_plain_byte) (λ b. to_ascii_lowercase b ≡ b) (λ b passes. grind (arith, nat_tests)) host plain);
  named = ends_in_a_label host letter;
}

pub is_some_host : (host : List ℕ) → 96 < last_first 46 host → 0 < length host
is_some_host [] letter = absurd (omega arith)
is_some_host (b ∷ host) letter = omega arith
