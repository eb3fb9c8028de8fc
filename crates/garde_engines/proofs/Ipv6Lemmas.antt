-- What the reader accepts is what the grammar of IPv6 texts says.
use Rattle.std.proofs.Common.{◌≡◌, ℕ, ◌+◌, ◌<◌, ◌≤◌, List, [], ◌∷◌, ◌++◌, length, Bool, true, false, eqb, ltb, Option, Some, None, refl, sym, ap, ◌∙◌, subst, arith, inl, inr, ◌⊎◌, ⊎_elim, append_assoc, length-append}
use Rattle.std.specs.Prelude.{⊤}
use Rattle.std.specs.Bool.{Decides}
use Rattle.std.specs.Char.{is_ascii_hexdigit, digit_value}
use Rattle.std.specs.Str.Parse.{AllDigits}
use Rattle.std.proofs.lemmas.Bool.Decides.{nat_tests, Decides-and, Decides-like}
use Rattle.garde_engines.specs.Ip.{IsIpv4, IsIpv6}
use Rattle.garde_engines.specs.Ipv6Reader.{is_full, read_colon, read_digit, ends_at, piece_after, accepts_ipv6, start_ipv6}
use Rattle.garde_engines.specs.declared.addresses.v6.Place.{Place}
use Rattle.garde_engines.specs.declared.addresses.v6.Place.TheVariants.{Start, Lead, Colon, Double, Piece}
use Rattle.garde_engines.specs.declared.addresses.v6.Ipv6Reader.{Ipv6Reader}
use Rattle.garde_engines.proofs.IpCuts.{ipv4_text_decides}
use Rattle.garde_engines.proofs.GroupLemmas.{Rest, AfterColon, AfterDouble, Begins, IsFull, rest_end, end_rest, rest_colon, double_of, of_double, ipv6_opens, opens_ipv6, rest_few, colon_rest}

bool_cases : (b : Bool) → (b ≡ true) ⊎ (b ≡ false)
bool_cases true = inl refl
bool_cases false = inr refl

-- ---- tests

full_decides : (b : Bool) (n : ℕ) → Decides (is_full b n) (IsFull b n)
full_decides true n = (λ h. grind (arith, nat_tests), λ h. grind (arith, nat_tests))
full_decides false n = (λ h. grind (arith, nat_tests), λ h. grind (arith, nat_tests))

hex_of : (c : ℕ) → is_ascii_hexdigit c ≡ true → digit_value c < 16
hex_of c h = grind (arith, nat_tests)

of_hex : (c : ℕ) → digit_value c < 16 → is_ascii_hexdigit c ≡ true
of_hex c h = grind (arith, nat_tests)

-- ---- the front of an IPv4 text

abbrev NoDot : List ℕ → Type 0
NoDot [] = ⊤
NoDot (c ∷ text) = (c ≡ 46 → ⊥) × NoDot text

no_dot_end : (p : List ℕ) (c : ℕ) → NoDot p → (c ≡ 46 → ⊥) → NoDot (p ++ c ∷ [])
no_dot_end [] c n h = (h, tt)
no_dot_end (x ∷ p) c n h = (n.0, no_dot_end p c n.1 h)

-- what stands before the first `.`, from a place in it on
abbrev FromHere : List ℕ → List ℕ → List ℕ → Type 0
FromHere p t a = (q : List ℕ) × (m : List ℕ) × (t ≡ q ++ 46 ∷ m) × AllDigits 10 q × (length p + length q ≡ length a)

front_of : (p t a m : List ℕ) → NoDot p → AllDigits 10 a → p ++ t ≡ a ++ 46 ∷ m → FromHere p t a
front_of [] t a m n d e = (a, m, e, d, omega arith)
front_of (x ∷ p) t [] m n d e = absurd (n.0 cc)
front_of (x ∷ p) t (y ∷ a) m n d e =
    let k : p ++ t ≡ a ++ 46 ∷ m = cc in
    let (q, r, w, all, len) = front_of p t a m n.1 d.1 k in
    (q, r, w, all, omega (arith, len))

-- the text from a `:` on begins with so many bytes, none of which is a `.`, and this text follows
record PieceOf (k : ℕ) (w t : List ℕ) : Type 0 where
  read : List ℕ
  count : length read ≡ k
  no_dot : NoDot read
  whole : w ≡ read ++ t

no_byte : (w : List ℕ) → PieceOf 0 w w
no_byte w = record { read = []; count = refl; no_dot = tt; whole = refl }

one_more : (k : ℕ) (w : List ℕ) (c : ℕ) (t : List ℕ) → (c ≡ 46 → ⊥) → PieceOf k w (c ∷ t) → PieceOf (k + 1) w t
one_more k w c t apart p = record {
  read = p.read ++ c ∷ [];
  count = length-append p.read (c ∷ []) ∙ omega (arith, p.count);
  no_dot = no_dot_end p.read c p.no_dot apart;
  whole = p.whole ∙ sym (append_assoc p.read (c ∷ []) t);
}

next_is : (k c : ℕ) (t a p q m : List ℕ) → length a ≤ 3 → length p ≡ k → c ∷ t ≡ q ++ 46 ∷ m → AllDigits 10 q → length p + length q ≡ length a →
    (c ≡ 46) ⊎ ((digit_value c < 10) × (k < 3))
next_is k c t a p [] m few count h all len = inl cc
next_is k c t a p (x ∷ q) m few count h all len =
    let same : x ≡ c = cc in
    inr (subst (λ z. digit_value z < 10) same all.0, omega (arith, few, count, len))

ipv4_next : (k : ℕ) (w : List ℕ) (c : ℕ) (t : List ℕ) → PieceOf k w (c ∷ t) → IsIpv4 w → (c ≡ 46) ⊎ ((digit_value c < 10) × (k < 3))
ipv4_next k w c t p (a, b, d, f, (ia, ib, ic, id), e) =
    let (q, m, h, all, len) = front_of p.read (c ∷ t) a _ p.no_dot ia.0.1 (sym p.whole ∙ e) in
    next_is k c t a p.read q m ia.1 p.count h all len

not_at_end : (q m : List ℕ) → [] ≡ q ++ 46 ∷ m → ⊥
not_at_end [] m h = cc
not_at_end (x ∷ q) m h = cc

ipv4_not_done : (k : ℕ) (w : List ℕ) → PieceOf k w [] → IsIpv4 w → ⊥
ipv4_not_done k w p (a, b, d, f, (ia, ib, ic, id), e) =
    let (q, m, h, all, len) = front_of p.read [] a _ p.no_dot ia.0.1 (sym p.whole ∙ e) in
    not_at_end q m h

ipv4_first : (w : List ℕ) → IsIpv4 (46 ∷ w) → ⊥
ipv4_first w ([], b, d, f, (ia, ib, ic, id), e) = omega (arith, ia.0.0)
ipv4_first w (x ∷ a, b, d, f, (ia, ib, ic, id), e) =
    let same : x ≡ 46 = cc in
    omega (arith, subst (λ z. digit_value z < 10) same ia.0.1.0)

-- ---- the rest of a piece, and what follows it

record GroupRest (k : ℕ) (e : List ℕ) : Type 0 where
  all : AllDigits 16 e
  some : 0 < k + length e
  few : k + length e ≤ 4

abbrev InPiece : Bool → ℕ → ℕ → List ℕ → List ℕ → Type 0
InPiece b n k w t = ((e : List ℕ) × (r : List ℕ) × GroupRest k e × Rest b (n + 1) r × (t ≡ e ++ r)) ⊎ (IsIpv4 w × IsFull b (n + 2))

begins_piece : (b : Bool) (n : ℕ) (t : List ℕ) → Begins b n t → InPiece b n 0 t t
begins_piece b n t (inl (g, r, i, h, e)) = inl (g, r, record { all = i.0.1; some = omega (arith, i.0.0); few = omega (arith, i.1) }, h, e)
begins_piece b n t (inr both) = inr both

piece_begins : (b : Bool) (n : ℕ) (t : List ℕ) → InPiece b n 0 t t → Begins b n t
piece_begins b n t (inl (g, r, i, h, e)) = inl (g, r, ((omega (arith, i.some), i.all), omega (arith, i.few)), h, e)
piece_begins b n t (inr both) = inr both

abbrev Goes : Bool → ℕ → ℕ → List ℕ → ℕ → List ℕ → Type 0
Goes b n k w c t = (is_ascii_hexdigit c ≡ true) × (k < 4) × InPiece b n (k + 1) w t

piece_fwd : (b : Bool) (n k : ℕ) (w : List ℕ) (c : ℕ) (t : List ℕ) → (c ≡ 58 → ⊥) → (c ≡ 46 → ⊥) → PieceOf k w (c ∷ t) → InPiece b n k w (c ∷ t) → Goes b n k w c t
piece_fwd b n k w c t apart no_dot p (inl ([], r, i, h, e)) =
    let h2 : Rest b (n + 1) (c ∷ t) = subst (Rest b (n + 1)) (sym e) h in
    absurd (apart (rest_colon b (n + 1) c t h2).0)
piece_fwd b n k w c t apart no_dot p (inl (x ∷ q, r, i, h, e)) =
    let same : x ≡ c = cc in
    let d : digit_value c < 16 = subst (λ z. digit_value z < 16) same i.all.0 in (
      of_hex c d,
      omega (arith, i.few),
      inl (q, r, record { all = i.all.1; some = omega arith; few = omega (arith, i.few) }, h, cc),
    )
piece_fwd b n k w c t apart no_dot p (inr (v, f)) = ⊎_elim
    (λ (z : c ≡ 46). absurd (no_dot z))
    (λ ((d, lt) : (digit_value c < 10) × (k < 3)). (of_hex c (omega (arith, d)), omega (arith, lt), inr (v, f)))
    (ipv4_next k w c t p v)

piece_bwd : (b : Bool) (n k : ℕ) (w : List ℕ) (c : ℕ) (t : List ℕ) → is_ascii_hexdigit c ≡ true → InPiece b n (k + 1) w t → InPiece b n k w (c ∷ t)
piece_bwd b n k w c t hex (inl (q, r, i, h, e)) =
    inl (c ∷ q, r, record { all = (hex_of c hex, i.all); some = omega arith; few = omega (arith, i.few) }, h, ap (λ z. c ∷ z) e)
piece_bwd b n k w c t hex (inr both) = inr both

-- no group and no IPv4 text begins with `:`
piece_colon : (b : Bool) (n k : ℕ) (w t : List ℕ) → PieceOf k w (58 ∷ t) → InPiece b n k w (58 ∷ t) → (0 < k) × (n < 8) × AfterColon b (n + 1) t
piece_colon b n k w t p (inl ([], r, i, h, e)) =
    let h2 : Rest b (n + 1) (58 ∷ t) = subst (Rest b (n + 1)) (sym e) h in
    (omega (arith, i.some), omega (arith, rest_few b (n + 1) (58 ∷ t) h2), (rest_colon b (n + 1) 58 t h2).1)
piece_colon b n k w t p (inl (x ∷ q, r, i, h, e)) =
    let same : x ≡ 58 = cc in
    let d : digit_value 58 < 16 = subst (λ z. digit_value z < 16) same i.all.0 in
    absurd (omega (arith, d))
piece_colon b n k w t p (inr (v, f)) = ⊎_elim
    (λ (z : 58 ≡ 46). absurd (omega (arith, z)))
    (λ ((d, lt) : (digit_value 58 < 10) × (k < 3)). absurd (omega (arith, d)))
    (ipv4_next k w 58 t p v)

-- no group begins with `.`
piece_dot : (b : Bool) (n k : ℕ) (w t : List ℕ) → InPiece b n k w (46 ∷ t) → IsIpv4 w × IsFull b (n + 2)
piece_dot b n k w t (inl ([], r, i, h, e)) =
    let h2 : Rest b (n + 1) (46 ∷ t) = subst (Rest b (n + 1)) (sym e) h in
    let z = (rest_colon b (n + 1) 46 t h2).0 in
    absurd (omega (arith, z))
piece_dot b n k w t (inl (x ∷ q, r, i, h, e)) =
    let same : x ≡ 46 = cc in
    let d : digit_value 46 < 16 = subst (λ z. digit_value z < 16) same i.all.0 in
    absurd (omega (arith, d))
piece_dot b n k w t (inr both) = both

-- ---- what a place means

-- the piece at this place, and the text that is left
abbrev Fits : Place → List ℕ → List ℕ → Type 0
Fits Start w t = w ≡ t
Fits Lead w t = w ≡ t
Fits Colon w t = w ≡ t
Fits Double w t = w ≡ t
Fits (Piece k) w t = (0 < k) × (k ≤ 4) × PieceOf k w t

abbrev Means : Place → Bool → ℕ → List ℕ → List ℕ → Type 0
Means Start b n w t = ((v : List ℕ) × AfterDouble n v × (t ≡ 58 ∷ (58 ∷ v))) ⊎ Begins b n t
Means Lead b n w t = (v : List ℕ) × AfterDouble n v × (t ≡ 58 ∷ v)
Means Colon b n w t = AfterColon b n t
Means Double b n w t = ((t ≡ []) × (n ≤ 7)) ⊎ Begins b n t
Means (Piece k) b n w t = InPiece b n k w t

abbrev FitsOpt : Option Ipv6Reader → List ℕ → List ℕ → Type 0
FitsOpt None w t = ⊤
FitsOpt (Some s) w t = Fits s.place w t

abbrev MeansOpt : Option Ipv6Reader → List ℕ → List ℕ → Type 0
MeansOpt None w t = ⊥
MeansOpt (Some s) w t = Means s.place s.compressed s.groups w t

no_empty : (b : Bool) (n : ℕ) → Begins b n [] → ⊥
no_empty b n (inl ([], r, i, h, e)) = omega (arith, i.0.0)
no_empty b n (inl (x ∷ g, r, i, h, e)) = cc
no_empty b n (inr (v, f)) = ipv4_not_done 0 [] (no_byte []) v

no_begin : (b : Bool) (n : ℕ) (t : List ℕ) → Begins b n (58 ∷ t) → ⊥
no_begin b n t h = let k = (piece_colon b n 0 (58 ∷ t) t (no_byte (58 ∷ t)) (begins_piece b n (58 ∷ t) h)).0 in omega (arith, k)

-- ---- a `:`

colon_fits : (p : Place) (s : Ipv6Reader) (t : List ℕ) → FitsOpt (read_colon p s) t t
colon_fits Start s t = refl
colon_fits Lead s t = refl
colon_fits Colon s t = ⊎_elim (λ (e : s.compressed ≡ true). rw e tt) (λ (e : s.compressed ≡ false). rw e refl) (bool_cases s.compressed)
colon_fits Double s t = tt
colon_fits (Piece k) s t = ⊎_elim
    (λ (e : ltb s.groups 8 ≡ true). rw e refl)
    (λ (e : ltb s.groups 8 ≡ false). rw e tt)
    (bool_cases (ltb s.groups 8))

colon_fwd : (p : Place) (s : Ipv6Reader) (w t : List ℕ) → Fits p w (58 ∷ t) → Means p s.compressed s.groups w (58 ∷ t) → MeansOpt (read_colon p s) t t
colon_fwd Start s w t fits (inl (v, a, e)) = (v, a, cc)
colon_fwd Start s w t fits (inr h) = absurd (no_begin s.compressed s.groups t h)
colon_fwd Lead s w t fits (v, a, e) = let k : v ≡ t = cc in subst (λ z. Means Double true s.groups z z) k (double_of s.groups v a)
colon_fwd Colon s w t fits (inl (f, (v, a, e))) =
    let k : v ≡ t = cc in
    rw f (subst (λ z. Means Double true s.groups z z) k (double_of s.groups v a))
colon_fwd Colon s w t fits (inr h) = absurd (no_begin s.compressed s.groups t h)
colon_fwd Double s w t fits (inl (e, le)) = cc
colon_fwd Double s w t fits (inr h) = no_begin s.compressed s.groups t h
colon_fwd (Piece k) s w t fits h =
    let (low, few, more) = piece_colon s.compressed s.groups k w t fits.2 h in
    let test : ltb s.groups 8 ≡ true = grind (arith, nat_tests) in
    rw test more

colon_bwd : (p : Place) (s : Ipv6Reader) (w t : List ℕ) → Fits p w (58 ∷ t) → MeansOpt (read_colon p s) t t → Means p s.compressed s.groups w (58 ∷ t)
colon_bwd Start s w t fits (v, a, e) = inl (v, a, ap (λ z. 58 ∷ z) e)
colon_bwd Lead s w t fits h = (t, of_double s.groups t h, refl)
colon_bwd Colon s w t fits h = ⊎_elim
    (λ (e : s.compressed ≡ true). absurd (rw e at h))
    (λ (e : s.compressed ≡ false). inl (e, (t, of_double s.groups t (rw e at h), refl)))
    (bool_cases s.compressed)
colon_bwd Double s w t fits h = absurd h
colon_bwd (Piece k) s w t fits h = ⊎_elim
    (λ (e : ltb s.groups 8 ≡ true). let g = rw e at h in
    inl ([], 58 ∷ t, record { all = tt; some = omega (arith, fits.0); few = omega (arith, fits.1) }, colon_rest s.compressed (s.groups + 1) t g, refl))
    (λ (e : ltb s.groups 8 ≡ false). absurd (rw e at h))
    (bool_cases (ltb s.groups 8))

-- ---- a `.`

begins_dot : (b : Bool) (n : ℕ) (w t : List ℕ) → w ≡ 46 ∷ t → Begins b n (46 ∷ t) → IsFull b (n + 2) × IsIpv4 w
begins_dot b n w t e h = let (v, f) = piece_dot b n 0 (46 ∷ t) t (begins_piece b n (46 ∷ t) h) in (f, subst IsIpv4 (sym e) v)

no_colon : (t v : List ℕ) → 46 ∷ t ≡ 58 ∷ v → ⊥
no_colon t v e = cc

no_end : (c : ℕ) (t : List ℕ) → c ∷ t ≡ [] → ⊥
no_end c t e = cc

dot_fwd : (p : Place) (b : Bool) (n : ℕ) (w t : List ℕ) → Fits p w (46 ∷ t) → Means p b n w (46 ∷ t) → IsFull b (n + 2) × IsIpv4 w
dot_fwd Start b n w t fits (inl (v, a, e)) = absurd (no_colon t (58 ∷ v) e)
dot_fwd Start b n w t fits (inr h) = begins_dot b n w t fits h
dot_fwd Lead b n w t fits (v, a, e) = absurd (no_colon t v e)
dot_fwd Colon b n w t fits (inl (f, (v, a, e))) = absurd (no_colon t v e)
dot_fwd Colon b n w t fits (inr h) = begins_dot b n w t fits h
dot_fwd Double b n w t fits (inl (e, le)) = absurd (no_end 46 t e)
dot_fwd Double b n w t fits (inr h) = begins_dot b n w t fits h
dot_fwd (Piece k) b n w t fits h = let both = piece_dot b n k w t h in (both.1, both.0)

dot_bwd : (p : Place) (b : Bool) (n : ℕ) (w t : List ℕ) → Fits p w (46 ∷ t) → IsFull b (n + 2) × IsIpv4 w → Means p b n w (46 ∷ t)
dot_bwd Start b n w t fits (f, v) = absurd (ipv4_first t (subst IsIpv4 fits v))
dot_bwd Lead b n w t fits (f, v) = absurd (ipv4_first t (subst IsIpv4 fits v))
dot_bwd Colon b n w t fits (f, v) = absurd (ipv4_first t (subst IsIpv4 fits v))
dot_bwd Double b n w t fits (f, v) = absurd (ipv4_first t (subst IsIpv4 fits v))
dot_bwd (Piece k) b n w t fits (f, v) = inr (v, f)

-- ---- a digit

one_fits : (w : List ℕ) (c : ℕ) (t : List ℕ) → (c ≡ 46 → ⊥) → w ≡ c ∷ t → Fits (Piece 1) w t
one_fits w c t no_dot e = (omega arith, omega arith, one_more 0 w c t no_dot (subst (λ z. PieceOf 0 w z) e (no_byte w)))

digit_fits : (p : Place) (s : Ipv6Reader) (w : List ℕ) (c : ℕ) (t : List ℕ) → (c ≡ 46 → ⊥) → Fits p w (c ∷ t) → FitsOpt (read_digit p s) w t
digit_fits Start s w c t no_dot fits = one_fits w c t no_dot fits
digit_fits Lead s w c t no_dot fits = tt
digit_fits Colon s w c t no_dot fits = one_fits w c t no_dot fits
digit_fits Double s w c t no_dot fits = one_fits w c t no_dot fits
digit_fits (Piece k) s w c t no_dot fits = ⊎_elim
    (λ (e : ltb k 4 ≡ true). rw e (omega arith, grind (arith, nat_tests), one_more k w c t no_dot fits.2))
    (λ (e : ltb k 4 ≡ false). rw e tt)
    (bool_cases (ltb k 4))

-- a byte that is neither `:` nor `.`
abbrev Apart : ℕ → Type 0
Apart c = (c ≡ 58 → ⊥) × (c ≡ 46 → ⊥)

-- what a digit leads to where an address may go on with it
abbrev Leads : Place → Ipv6Reader → List ℕ → ℕ → List ℕ → Type 0
Leads p s w c t = (is_ascii_hexdigit c ≡ true) × MeansOpt (read_digit p s) w t

begin_fwd : (b : Bool) (n : ℕ) (w : List ℕ) (c : ℕ) (t : List ℕ) → Apart c → w ≡ c ∷ t → Begins b n (c ∷ t) → (is_ascii_hexdigit c ≡ true) × InPiece b n 1 w t
begin_fwd b n w c t apart e h =
    let (hex, lt, more) = piece_fwd b n 0 (c ∷ t) c t apart.0 apart.1 (no_byte (c ∷ t)) (begins_piece b n (c ∷ t) h) in
    (hex, subst (λ z. InPiece b n 1 z t) (sym e) more)

begin_bwd : (b : Bool) (n : ℕ) (w : List ℕ) (c : ℕ) (t : List ℕ) → is_ascii_hexdigit c ≡ true → w ≡ c ∷ t → InPiece b n 1 w t → Begins b n (c ∷ t)
begin_bwd b n w c t hex e h = piece_begins b n (c ∷ t) (piece_bwd b n 0 (c ∷ t) c t hex (subst (λ z. InPiece b n 1 z t) e h))

digit_fwd : (p : Place) (s : Ipv6Reader) (w : List ℕ) (c : ℕ) (t : List ℕ) → Apart c → Fits p w (c ∷ t) → Means p s.compressed s.groups w (c ∷ t) → Leads p s w c t
digit_fwd Start s w c t apart fits (inl (v, a, e)) = absurd (apart.0 cc)
digit_fwd Start s w c t apart fits (inr h) = begin_fwd s.compressed s.groups w c t apart fits h
digit_fwd Lead s w c t apart fits (v, a, e) = absurd (apart.0 cc)
digit_fwd Colon s w c t apart fits (inl (g, (v, a, e))) = absurd (apart.0 cc)
digit_fwd Colon s w c t apart fits (inr h) = begin_fwd s.compressed s.groups w c t apart fits h
digit_fwd Double s w c t apart fits (inl (e, le)) = cc
digit_fwd Double s w c t apart fits (inr h) = begin_fwd s.compressed s.groups w c t apart fits h
digit_fwd (Piece k) s w c t apart fits h =
    let (hex, lt, more) = piece_fwd s.compressed s.groups k w c t apart.0 apart.1 fits.2 h in
    let test : ltb k 4 ≡ true = grind (arith, nat_tests) in
    (hex, rw test more)

digit_bwd : (p : Place) (s : Ipv6Reader) (w : List ℕ) (c : ℕ) (t : List ℕ) → is_ascii_hexdigit c ≡ true → Fits p w (c ∷ t) → MeansOpt (read_digit p s) w t → Means p s.compressed s.groups w (c ∷ t)
digit_bwd Start s w c t hex fits h = inr (begin_bwd s.compressed s.groups w c t hex fits h)
digit_bwd Lead s w c t hex fits h = absurd h
digit_bwd Colon s w c t hex fits h = inr (begin_bwd s.compressed s.groups w c t hex fits h)
digit_bwd Double s w c t hex fits h = inr (begin_bwd s.compressed s.groups w c t hex fits h)
digit_bwd (Piece k) s w c t hex fits h = ⊎_elim
    (λ (e : ltb k 4 ≡ true). piece_bwd s.compressed s.groups k w c t hex (rw e at h))
    (λ (e : ltb k 4 ≡ false). absurd (rw e at h))
    (bool_cases (ltb k 4))

-- ---- the end

end_fwd : (p : Place) (b : Bool) (n : ℕ) (w : List ℕ) → Fits p w [] → ends_at p b n ≡ true → Means p b n w []
end_fwd Start b n w fits h = cc
end_fwd Lead b n w fits h = cc
end_fwd Colon b n w fits h = cc
end_fwd Double b n w fits h = inl (refl, grind (arith, nat_tests))
end_fwd (Piece k) b n w fits h =
    let group : GroupRest k [] = record { all = tt; some = omega (arith, fits.0); few = omega (arith, fits.1) } in
    inl ([], [], group, end_rest b (n + 1) ((full_decides b (n + 1)).0 h), refl)

end_bwd : (p : Place) (b : Bool) (n : ℕ) (w : List ℕ) → Fits p w [] → Means p b n w [] → ends_at p b n ≡ true
end_bwd Start b n w fits (inl (v, a, e)) = cc
end_bwd Start b n w fits (inr h) = absurd (no_empty b n h)
end_bwd Lead b n w fits (v, a, e) = cc
end_bwd Colon b n w fits (inl (g, (v, a, e))) = cc
end_bwd Colon b n w fits (inr h) = absurd (no_empty b n h)
end_bwd Double b n w fits (inl (e, le)) = grind (arith, nat_tests)
end_bwd Double b n w fits (inr h) = absurd (no_empty b n h)
end_bwd (Piece k) b n w fits (inl ([], r, i, h, e)) = (full_decides b (n + 1)).1 (rest_end b (n + 1) (subst (Rest b (n + 1)) (sym e) h))
end_bwd (Piece k) b n w fits (inl (x ∷ q, r, i, h, e)) = cc
end_bwd (Piece k) b n w fits (inr (v, f)) = absurd (ipv4_not_done k w fits.2 v)

-- ---- the whole text

abbrev Next : Option Ipv6Reader → List ℕ → List ℕ → Bool
Next o w t = elim o as (λ _. Bool) [ None ↦ false | Some next ↦ accepts_ipv6 next w t ]

-- the reader decides the text from each place in it
abbrev Reads : List ℕ → Type 0
Reads t = (s : Ipv6Reader) (w : List ℕ) → Fits s.place w t → Decides (accepts_ipv6 s w t) (Means s.place s.compressed s.groups w t)

next_of : (t w : List ℕ) (o : Option Ipv6Reader) → Reads t → FitsOpt o w t → Decides (Next o w t) (MeansOpt o w t)
next_of t w None reads fits = ((λ h. cc), (λ h. absurd h))
next_of t w (Some s) reads fits = reads s w fits

at_dot : (t : List ℕ) (s : Ipv6Reader) (w : List ℕ) → Fits s.place w (46 ∷ t) → Decides (accepts_ipv6 s w (46 ∷ t)) (Means s.place s.compressed s.groups w (46 ∷ t))
at_dot t s w fits =
    Decides-like _ (dot_bwd s.place s.compressed s.groups w t fits) (dot_fwd s.place s.compressed s.groups w t fits)
    (Decides-and _ _ (full_decides s.compressed (s.groups + 2)) (ipv4_text_decides w))

at_colon : (t : List ℕ) → Reads t → (s : Ipv6Reader) (w : List ℕ) → Fits s.place w (58 ∷ t) →
    Decides (accepts_ipv6 s w (58 ∷ t)) (Means s.place s.compressed s.groups w (58 ∷ t))
at_colon t reads s w fits =
    Decides-like _ (colon_bwd s.place s w t fits) (colon_fwd s.place s w t fits)
    (next_of t t (read_colon s.place s) reads (colon_fits s.place s t))

piece_stays : (c : ℕ) (w t : List ℕ) → eqb c 58 ≡ false → piece_after c w t ≡ w
piece_stays c w t e = rw e refl

at_other : (t : List ℕ) → Reads t → (s : Ipv6Reader) (w : List ℕ) (c : ℕ) → Apart c → eqb c 46 ≡ false → eqb c 58 ≡ false → Fits s.place w (c ∷ t) →
    Decides (accepts_ipv6 s w (c ∷ t)) (Means s.place s.compressed s.groups w (c ∷ t))
at_other t reads s w c apart no_dot no_colon fits = ⊎_elim
    (λ (hex : is_ascii_hexdigit c ≡ true).
    let next = next_of t w (read_digit s.place s) reads (digit_fits s.place s w c t apart.1 fits) in
    let there : List ℕ → Type 0 = λ z. Decides (Next (read_digit s.place s) z t) (Means s.place s.compressed s.groups w (c ∷ t)) in
    rw (no_dot, no_colon, hex) (subst there (sym (piece_stays c w t no_colon))
    (Decides-like _ (digit_bwd s.place s w c t hex fits) (λ h. (digit_fwd s.place s w c t apart fits h).1) next)))
    (λ (hex : is_ascii_hexdigit c ≡ false). rw (no_dot, no_colon, hex)
    ((λ h. cc), (λ h. let k = (digit_fwd s.place s w c t apart fits h).0 in cc)))
    (bool_cases (is_ascii_hexdigit c))

reads_more : (t : List ℕ) → Reads t → (c : ℕ) → Reads (c ∷ t)
reads_more t reads c s w fits =
    let here : ℕ → Type 0 = λ z. Decides (accepts_ipv6 s w (z ∷ t)) (Means s.place s.compressed s.groups w (z ∷ t)) in
    ⊎_elim
    (λ (e : eqb c 46 ≡ true). let k : c ≡ 46 = grind (arith, nat_tests) in
    subst here (sym k) (at_dot t s w (subst (λ z. Fits s.place w (z ∷ t)) k fits)))
    (λ (e : eqb c 46 ≡ false). ⊎_elim
    (λ (g : eqb c 58 ≡ true). let k : c ≡ 58 = grind (arith, nat_tests) in
    subst here (sym k) (at_colon t reads s w (subst (λ z. Fits s.place w (z ∷ t)) k fits)))
    (λ (g : eqb c 58 ≡ false). let apart : Apart c = ((λ k. grind (arith, nat_tests)), (λ k. grind (arith, nat_tests))) in
    at_other t reads s w c apart e g fits)
    (bool_cases (eqb c 58)))
    (bool_cases (eqb c 46))

reads_all : (t : List ℕ) → Reads t
reads_all [] s w fits = (end_fwd s.place s.compressed s.groups w fits, end_bwd s.place s.compressed s.groups w fits)
reads_all (c ∷ t) s w fits = reads_more t (reads_all t) c s w fits

pub ipv6_decides : (t : List ℕ) → Decides (accepts_ipv6 start_ipv6 t t) (IsIpv6 t)
ipv6_decides t =
    let d = reads_all t start_ipv6 t refl in
    ((λ h. opens_ipv6 t (d.0 h)), (λ h. d.1 (ipv6_opens t h)))
