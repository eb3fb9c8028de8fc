-- The test of a text by cuts is what the grammar of IP addresses says.
use Rattle.std.proofs.Common.{◌≡◌, ℕ, zero, suc, ◌+◌, ◌-◌, ◌<◌, ◌≤◌, List, [], ◌∷◌, ◌++◌, length, Bool, false, eqb, leb, not, ◌&&◌, ◌||◌, refl, ap, ◌∙◌, subst, arith, inl, inr, ◌⊎◌, ⊎_elim}
use Rattle.std.specs.Prelude.{slice_index}
use Rattle.std.specs.Bool.{Decides}
use Rattle.std.specs.Char.{is_digit, digit_value}
use Rattle.std.specs.List.{list_all}
use Rattle.std.specs.Str.Parse.{AllDigits, IsNumeral, digits_value}
use Rattle.std.proofs.lemmas.Bool.Decides.{not_from_Decides, Decides-and, Decides-or, Decides-like, Decides-eqb, Decides-ltb, Decides-below_or, nat_tests}
use Rattle.garde_i18n.specs.declared.reasons.IpKind.{IpKind}
use Rattle.garde_i18n.specs.declared.reasons.IpKind.TheVariants.{Any, V4, V6}
use Rattle.garde_engines.specs.Ip.{dot, colon, IsOctet, IsIpv4, IsGroup, IsRun, IsTail, IsIpv6, IsIp}
use Rattle.garde_engines.specs.IpText.{some_cut, after, some_below, is_numeral, is_octet, is_ipv4_text, is_group, is_run, is_tail, is_ipv6_text, is_ip_text}

-- ---- cuts

abbrev Cut : ℕ → (List ℕ → List ℕ → Type 0) → List ℕ → Type 0
Cut byte P t = (f : List ℕ) × (r : List ℕ) × P f r × (t ≡ f ++ byte ∷ r)

cut_to : (byte b : ℕ) (P : List ℕ → List ℕ → Type 0) (t : List ℕ) → ((b ≡ byte) × P [] t) ⊎ Cut byte (λ f r. P (b ∷ f) r) t → Cut byte P (b ∷ t)
cut_to byte b P t (inl (e, h)) = ([], t, h, ap (λ z. z ∷ t) e)
cut_to byte b P t (inr (f, r, h, e)) = (b ∷ f, r, h, ap (λ z. b ∷ z) e)

cut_from : (byte b : ℕ) (P : List ℕ → List ℕ → Type 0) (t : List ℕ) → Cut byte P (b ∷ t) → ((b ≡ byte) × P [] t) ⊎ Cut byte (λ f r. P (b ∷ f) r) t
cut_from byte b P t ([], r, h, e) =
    let same : r ≡ t = cc in
    inl (cc, subst (P []) same h)
cut_from byte b P t (x ∷ f, r, h, e) =
    let same : x ≡ b = cc in
    inr (f, r, subst (λ z. P (z ∷ f) r) same h, cc)

no_cut : (byte : ℕ) (P : List ℕ → List ℕ → Type 0) → Cut byte P [] → ⊥
no_cut byte P ([], r, h, e) = cc
no_cut byte P (x ∷ f, r, h, e) = cc

cut_decides : (byte : ℕ) (p : List ℕ → List ℕ → Bool) (P : List ℕ → List ℕ → Type 0) → ((f r : List ℕ) → Decides (p f r) (P f r)) → (t : List ℕ) →
    Decides (some_cut byte p t) (Cut byte P t)
cut_decides byte p P each [] = (λ h. cc, λ h. absurd (no_cut byte P h))
cut_decides byte p P each (b ∷ t) =
    let more = cut_decides byte (λ f r. p (b ∷ f) r) (λ f r. P (b ∷ f) r) (λ f r. each (b ∷ f) r) t in
    Decides-like _ (cut_to byte b P t) (cut_from byte b P t)
    (Decides-or _ _ (Decides-and _ _ (Decides-eqb b byte) (each [] t)) more)

after_decides : (byte : ℕ) (p : List ℕ → Bool) (P : List ℕ → Type 0) → ((r : List ℕ) → Decides (p r) (P r)) → (t : List ℕ) →
    Decides (after byte p t) ((r : List ℕ) × P r × (t ≡ byte ∷ r))
after_decides byte p P each [] = (λ h. cc, λ (r, h, e). cc)
after_decides byte p P each (b ∷ t) =
    Decides-like _ (λ (e, h). (t, h, ap (λ z. z ∷ t) e))
    (λ (r, h, e). let same : r ≡ t = cc in (cc, subst P same h))
    (Decides-and _ _ (Decides-eqb b byte) (each t))

below_decides : (p : ℕ → Bool) (P : ℕ → Type 0) → ((k : ℕ) → Decides (p k) (P k)) → (n : ℕ) → Decides (some_below p n) ((k : ℕ) × (k < n) × P k)
below_decides p P each n = Decides-below_or p P (some_below p) each refl (λ n. refl) n

-- ---- octets and groups

le_decides : (a b : ℕ) → Decides (leb a b) (a ≤ b)
le_decides a b = (λ h. grind (arith, nat_tests), λ h. grind (arith, nat_tests))

digits_decides : (radix : ℕ) (t : List ℕ) → Decides (list_all (λ c. is_digit c radix) t) (AllDigits radix t)
digits_decides radix [] = (λ h. tt, λ h. refl)
digits_decides radix (c ∷ t) = Decides-and _ _ (Decides-ltb (digit_value c) radix) (digits_decides radix t)

numeral_decides : (radix : ℕ) (t : List ℕ) → Decides (is_numeral radix t) (IsNumeral radix t)
numeral_decides radix t = Decides-and _ _ (Decides-ltb 0 (length t)) (digits_decides radix t)

zero_decides : (first len : ℕ) → Decides (not (eqb first 48) || eqb len 1) (first ≡ 48 → len ≡ 1)
zero_decides first len = (λ h e. grind (arith, nat_tests), λ h. grind (arith, nat_tests))

octet_decides : (t : List ℕ) → Decides (is_octet t) (IsOctet t)
unfolding is_octet
octet_decides t =
    Decides-like _ (λ h. (h.0, h.1.0, h.1.1.0, h.1.1.1)) (λ h. (h.0, (h.1, (h.2, h.3))))
    (Decides-and _ _ (numeral_decides 10 t) (Decides-and _ _ (le_decides (length t) 3)
    (Decides-and _ _ (le_decides (digits_value 10 t) 255) (zero_decides (slice_index t 0) (length t)))))

group_decides : (t : List ℕ) → Decides (is_group t) (IsGroup t)
group_decides t = Decides-and _ _ (numeral_decides 16 t) (le_decides (length t) 4)

-- ---- IPv4

abbrev Two : List ℕ → Type 0
Two t = Cut dot (λ c d. IsOctet c × IsOctet d) t

abbrev Three : List ℕ → Type 0
Three t = Cut dot (λ b cd. IsOctet b × Two cd) t

abbrev Four : List ℕ → Type 0
Four t = Cut dot (λ a bcd. IsOctet a × Three bcd) t

four_to : (t : List ℕ) → Four t → IsIpv4 t
four_to t (a, bcd, (ia, (b, cd, (ib, (c, d, (ic, id), e3)), e2)), e1) = (
  a,
  b,
  c,
  d,
  (ia, ib, ic, id),
  e1 ∙ ap (λ z. a ++ 46 ∷ z) (e2 ∙ ap (λ z. b ++ 46 ∷ z) e3),
)

four_from : (t : List ℕ) → IsIpv4 t → Four t
four_from t (a, b, c, d, (ia, ib, ic, id), e) =
    (a, b ++ 46 ∷ (c ++ 46 ∷ d), (ia, (b, c ++ 46 ∷ d, (ib, (c, d, (ic, id), refl)), refl)), e)

pub ipv4_text_decides : (t : List ℕ) → Decides (is_ipv4_text t) (IsIpv4 t)
unfolding is_ipv4_text
ipv4_text_decides t =
    let two = cut_decides dot _ (λ c d. IsOctet c × IsOctet d) (λ c d. Decides-and _ _ (octet_decides c) (octet_decides d)) in
    let three = cut_decides dot _ (λ b cd. IsOctet b × Two cd) (λ b cd. Decides-and _ _ (octet_decides b) (two cd)) in
    let four = cut_decides dot _ (λ a bcd. IsOctet a × Three bcd) (λ a bcd. Decides-and _ _ (octet_decides a) (three bcd)) in
    Decides-like _ (four_to t) (four_from t) (four t)

-- ---- IPv6

empty_decides : (t : List ℕ) → Decides (eqb (length t) 0) (t ≡ [])
empty_decides [] = (λ h. refl, λ h. refl)
empty_decides (c ∷ t) = (λ h. grind (arith, nat_tests), λ h. cc)

run_decides : (n : ℕ) (t : List ℕ) → Decides (is_run n t) (IsRun n t)
unfolding is_run
run_decides zero t = empty_decides t
run_decides (suc zero) t = group_decides t
run_decides (suc (suc n)) t =
    Decides-like _ (λ (g, r, (i, h), e). (g, r, i, h, e)) (λ (g, r, i, h, e). (g, r, (i, h), e))
    (cut_decides colon _ (λ g r. IsGroup g × IsRun (suc n) r) (λ g r. Decides-and _ _ (group_decides g) (run_decides (suc n) r)) t)

octets_decide : (n : ℕ) (t : List ℕ) → Decides (some_cut colon (λ run octets. is_run (n - 2) run && is_ipv4_text octets) t)
    ((run : List ℕ) × (octets : List ℕ) × IsRun (n - 2) run × IsIpv4 octets × (t ≡ run ++ colon ∷ octets))
octets_decide n t =
    Decides-like _ (λ (g, r, (i, h), e). (g, r, i, h, e)) (λ (g, r, i, h, e). (g, r, (i, h), e))
    (cut_decides colon _ (λ run octets. IsRun (n - 2) run × IsIpv4 octets) (λ g r. Decides-and _ _ (run_decides (n - 2) g) (ipv4_text_decides r)) t)

tail_decides : (n : ℕ) (t : List ℕ) → Decides (is_tail n t) (IsTail n t)
unfolding is_tail
tail_decides n t =
    Decides-or _ _ (run_decides n t) (Decides-or _ _
    (Decides-and _ _ (Decides-eqb n 2) (ipv4_text_decides t))
    (Decides-and _ _ (Decides-ltb 2 n) (octets_decide n t)))

-- a run of a groups, `::`, and a tail of b groups
abbrev Doubled : ℕ → ℕ → List ℕ → Type 0
Doubled a b t = Cut colon (λ run rest. IsRun a run × ((tail : List ℕ) × IsTail b tail × (rest ≡ colon ∷ tail))) t

doubled_decides : (a b : ℕ) (t : List ℕ) → Decides (some_cut colon (λ run rest. is_run a run && after colon (λ tail. is_tail b tail) rest) t) (Doubled a b t)
doubled_decides a b t =
    cut_decides colon _ (λ run rest. IsRun a run × ((tail : List ℕ) × IsTail b tail × (rest ≡ colon ∷ tail)))
    (λ run rest. Decides-and _ _ (run_decides a run) (after_decides colon _ (IsTail b) (tail_decides b) rest)) t

abbrev Compressed : List ℕ → Type 0
Compressed t = (a : ℕ) × (b : ℕ) × (run : List ℕ) × (tail : List ℕ) × IsRun a run × IsTail b tail × (a + b ≤ 7) × (t ≡ run ++ colon ∷ (colon ∷ tail))

compressed_to : (t : List ℕ) → (a : ℕ) × (a < 8) × ((b : ℕ) × (b < 8 - a) × Doubled a b t) → Compressed t
compressed_to t (a, la, (b, lb, (run, rest, (i, (tail, h, f)), e))) =
    (a, b, run, tail, i, h, omega arith, e ∙ ap (λ z. run ++ 58 ∷ z) f)

compressed_from : (t : List ℕ) → Compressed t → (a : ℕ) × (a < 8) × ((b : ℕ) × (b < 8 - a) × Doubled a b t)
compressed_from t (a, b, run, tail, i, h, le, e) =
    (a, omega arith, (b, omega arith, (run, 58 ∷ tail, (i, (tail, h, refl)), e)))

pub ipv6_text_decides : (t : List ℕ) → Decides (is_ipv6_text t) (IsIpv6 t)
unfolding is_ipv6_text
ipv6_text_decides t =
    Decides-or _ _ (tail_decides 8 t) (Decides-like _ (compressed_to t) (compressed_from t)
    (below_decides _ _ (λ a. below_decides _ _ (λ b. doubled_decides a b t) (8 - a)) 8))

-- where a text is no IPv4 address, it is an address of some kind exactly where it is an IPv6 address
pub ipv6_decides_any : (t : List ℕ) (a b : Bool) → Decides a (IsIpv4 t) → Decides b (IsIpv6 t) → a ≡ false → Decides b (IsIp Any t)
ipv6_decides_any t a b d k e = (λ h. inr (k.0 h), ⊎_elim (λ v. absurd (not_from_Decides a d e v)) k.1)

pub ip_text_decides : (kind : IpKind) (t : List ℕ) → Decides (is_ip_text kind t) (IsIp kind t)
ip_text_decides Any t = Decides-or _ _ (ipv4_text_decides t) (ipv6_text_decides t)
ip_text_decides V4 t = ipv4_text_decides t
ip_text_decides V6 t = ipv6_text_decides t
