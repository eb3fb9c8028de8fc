-- Runs and tails of groups, by what stands after each `:`.
use Rattle.std.proofs.Common.{◌≡◌, ℕ, zero, suc, ◌+◌, ◌-◌, ◌≤◌, List, [], ◌∷◌, ◌++◌, Bool, true, false, refl, sym, ap, ◌∙◌, subst, arith, inl, inr, ◌⊎◌, ⊎_elim, append-nil, append_assoc}
use Rattle.garde_engines.specs.Ip.{IsIpv4, IsGroup, IsRun, IsTail, IsIpv6}

-- n groups, each after a `:`
abbrev pub Colons : ℕ → List ℕ → Type 0
Colons zero t = t ≡ []
Colons (suc n) t = (g : List ℕ) × (r : List ℕ) × IsGroup g × Colons n r × (t ≡ 58 ∷ (g ++ r))

-- the same, where an IPv4 text may stand for the last two
abbrev pub ColonTail : ℕ → List ℕ → Type 0
ColonTail zero t = t ≡ []
ColonTail (suc n) t = ((g : List ℕ) × (r : List ℕ) × IsGroup g × ColonTail n r × (t ≡ 58 ∷ (g ++ r)))
    ⊎ ((n ≡ 1) × ((q : List ℕ) × IsIpv4 q × (t ≡ 58 ∷ q)))

pub run_colons : (n : ℕ) (r : List ℕ) → IsRun (suc n) r → Colons (suc n) (58 ∷ r)
run_colons zero r h = (r, [], h, refl, ap (λ x. 58 ∷ x) (sym (append-nil r)))
run_colons (suc n) r (g, q, i, h, e) = (g, 58 ∷ q, i, run_colons n q h, ap (λ x. 58 ∷ x) e)

pub colons_run : (n : ℕ) (r : List ℕ) → Colons (suc n) (58 ∷ r) → IsRun (suc n) r
colons_run zero r (g, x, i, h, e) =
    let nil = append-nil g in
    let k : g ≡ r = cc in
    subst IsGroup k i
colons_run (suc n) r (g, x, i, (k, y, j, h, d), e) =
    let w : r ≡ g ++ 58 ∷ (k ++ y) = cc in
    (g, k ++ y, i, colons_run n (k ++ y) (k, y, j, h, refl), w)

colons_tail : (n : ℕ) (t : List ℕ) → Colons n t → ColonTail n t
colons_tail zero t h = h
colons_tail (suc n) t (g, r, i, h, e) = inl (g, r, i, colons_tail n r h, e)

colons_ipv4 : (n : ℕ) (x q : List ℕ) → Colons n x → IsIpv4 q → ColonTail (n + 2) (x ++ 58 ∷ q)
colons_ipv4 zero x q h v =
    let e : x ++ 58 ∷ q ≡ 58 ∷ q = ap (λ y. y ++ 58 ∷ q) h in
    inr (refl, (q, v, e))
colons_ipv4 (suc n) x q (g, r, i, h, e) v =
    let w : x ++ 58 ∷ q ≡ 58 ∷ (g ++ (r ++ 58 ∷ q)) = ap (λ y. y ++ 58 ∷ q) e ∙ ap (λ y. 58 ∷ y) (append_assoc g r (58 ∷ q)) in
    let m : suc n + 2 ≡ suc (n + 2) = omega arith in
    let P : ℕ → Type 0 = λ k. ColonTail k (x ++ 58 ∷ q) in
    let z : ColonTail (suc (n + 2)) (x ++ 58 ∷ q) = inl (g, r ++ 58 ∷ q, i, colons_ipv4 n r q h v, w) in
    subst P (sym m) z

-- a tail of some groups, behind a `:`
pub tail_colons : (n : ℕ) (t : List ℕ) → IsTail (suc n) t → ColonTail (suc n) (58 ∷ t)
tail_colons n t (inl run) = colons_tail (suc n) (58 ∷ t) (run_colons n t run)
tail_colons n t (inr (inl (e, v))) = inr (omega (arith, e), (t, v, refl))
tail_colons n t (inr (inr (lt, (r, q, run, v, e)))) =
    let k : suc n - 2 ≡ suc (n - 2) = omega (arith, lt) in
    let m : suc (n - 2) + 2 ≡ suc n = omega (arith, lt) in
    let c : Colons (suc (n - 2)) (58 ∷ r) = run_colons (n - 2) r (subst (λ z. IsRun z r) k run) in
    let w : ColonTail (suc (n - 2) + 2) (58 ∷ (r ++ 58 ∷ q)) = colons_ipv4 (suc (n - 2)) (58 ∷ r) q c v in
    let u : ColonTail (suc n) (58 ∷ (r ++ 58 ∷ q)) = subst (λ z. ColonTail z (58 ∷ (r ++ 58 ∷ q))) m w in
    subst (λ z. ColonTail (suc n) (58 ∷ z)) (sym e) u

abbrev WithIpv4 : ℕ → List ℕ → Type 0
WithIpv4 m x = (k : ℕ) × (y : List ℕ) × (q : List ℕ) × (m ≡ k + 2) × Colons k y × IsIpv4 q × (x ≡ y ++ 58 ∷ q)

split : (m : ℕ) (x : List ℕ) → ColonTail m x → Colons m x ⊎ WithIpv4 m x
split zero x h = inl h
split (suc n) x (inl (g, r, i, h, e)) = ⊎_elim
    (λ (c : Colons n r). inl (g, r, i, c, e))
    (λ ((k, y, q, s, c, v, w) : WithIpv4 n r). inr (
      suc k,
      58 ∷ (g ++ y),
      q,
      omega (arith, s),
      (g, y, i, c, refl),
      v,
      e ∙ ap (λ z. 58 ∷ z) (ap (λ z. g ++ z) w ∙ sym (append_assoc g y (58 ∷ q))),
    ))
    (split n r h)
split (suc n) x (inr (e, (q, v, w))) = inr (0, [], q, omega (arith, e), refl, v, w)

with_ipv4 : (n : ℕ) (t : List ℕ) (k : ℕ) (y q : List ℕ) → suc n ≡ k + 2 → Colons k y → IsIpv4 q → 58 ∷ t ≡ y ++ 58 ∷ q → IsTail (suc n) t
with_ipv4 n t zero y q s c v w =
    let d : 58 ∷ t ≡ 58 ∷ q = w ∙ ap (λ z. z ++ 58 ∷ q) c in
    let e : q ≡ t = cc in
    inr (inl (omega (arith, s), subst IsIpv4 e v))
with_ipv4 n t (suc k) y q s (g, r, i, h, e) v w =
    let d : 58 ∷ t ≡ 58 ∷ ((g ++ r) ++ 58 ∷ q) = w ∙ ap (λ z. z ++ 58 ∷ q) e in
    let u : t ≡ (g ++ r) ++ 58 ∷ q = cc in
    let run : IsRun (suc k) (g ++ r) = colons_run k (g ++ r) (g, r, i, h, refl) in
    let m : suc k ≡ suc n - 2 = omega (arith, s) in
    inr (inr (omega (arith, s), (g ++ r, q, subst (λ z. IsRun z (g ++ r)) m run, v, u)))

pub colons_of_tail : (n : ℕ) (t : List ℕ) → ColonTail (suc n) (58 ∷ t) → IsTail (suc n) t
colons_of_tail n t h = ⊎_elim
    (λ (c : Colons (suc n) (58 ∷ t)). inl (colons_run n t c))
    (λ ((k, y, q, s, c, v, w) : WithIpv4 (suc n) (58 ∷ t)). with_ipv4 n t k y q s c v w)
    (split (suc n) (58 ∷ t) h)

-- ---- what follows a group

abbrev pub IsFull : Bool → ℕ → Type 0
IsFull true n = n ≤ 7
IsFull false n = n ≡ 8

-- what may follow n groups, the last of which is just read
abbrev pub Rest : Bool → ℕ → List ℕ → Type 0
Rest true n t = (m : ℕ) × ColonTail m t × (n + m ≤ 7)
Rest false n t = ((m : ℕ) × ColonTail m t × (n + m ≡ 8))
    ⊎ ((a : ℕ) × (b : ℕ) × (r : List ℕ) × (q : List ℕ) × Colons a r × IsTail b q × (n + a + b ≤ 7) × (t ≡ r ++ 58 ∷ (58 ∷ q)))

-- what may follow `::` behind n groups
abbrev pub AfterDouble : ℕ → List ℕ → Type 0
AfterDouble n w = (m : ℕ) × IsTail m w × (n + m ≤ 7)

-- a group and what may follow it, or an IPv4 text
abbrev pub Begins : Bool → ℕ → List ℕ → Type 0
Begins b n t = ((g : List ℕ) × (r : List ℕ) × IsGroup g × Rest b (n + 1) r × (t ≡ g ++ r)) ⊎ (IsIpv4 t × IsFull b (n + 2))

-- what may follow the `:` behind n groups
abbrev pub AfterColon : Bool → ℕ → List ℕ → Type 0
AfterColon b n t = ((b ≡ false) × ((w : List ℕ) × AfterDouble n w × (t ≡ 58 ∷ w))) ⊎ Begins b n t

pub rest_end : (b : Bool) (n : ℕ) → Rest b n [] → IsFull b n
rest_end true n (zero, h, le) = omega (arith, le)
rest_end true n (suc m, inl (g, r, i, h, e), le) = cc
rest_end true n (suc m, inr (o, (q, v, e)), le) = cc
rest_end false n (inl (zero, h, le)) = omega (arith, le)
rest_end false n (inl (suc m, inl (g, r, i, h, e), le)) = cc
rest_end false n (inl (suc m, inr (o, (q, v, e)), le)) = cc
rest_end false n (inr (a, b, [], q, cs, tl, le, e)) = cc
rest_end false n (inr (a, b, x ∷ r, q, cs, tl, le, e)) = cc

pub end_rest : (b : Bool) (n : ℕ) → IsFull b n → Rest b n []
end_rest true n h = (0, refl, omega (arith, h))
end_rest false n h = inl (0, refl, omega (arith, h))

pub rest_colon : (b : Bool) (n c : ℕ) (t : List ℕ) → Rest b n (c ∷ t) → (c ≡ 58) × AfterColon b n t
rest_colon true n c t (zero, h, le) = cc
rest_colon true n c t (suc m, inl (g, r, i, h, e), le) = (cc, inr (inl (g, r, i, (m, h, omega (arith, le)), cc)))
rest_colon true n c t (suc m, inr (o, (q, v, e)), le) =
    let k : q ≡ t = cc in
    (cc, inr (inr (subst IsIpv4 k v, omega (arith, o, le))))
rest_colon false n c t (inl (zero, h, le)) = cc
rest_colon false n c t (inl (suc m, inl (g, r, i, h, e), le)) = (cc, inr (inl (g, r, i, inl (m, h, omega (arith, le)), cc)))
rest_colon false n c t (inl (suc m, inr (o, (q, v, e)), le)) =
    let k : q ≡ t = cc in
    (cc, inr (inr (subst IsIpv4 k v, omega (arith, o, le))))
rest_colon false n c t (inr (zero, b, r, q, cs, tl, le, e)) =
    let d : c ∷ t ≡ 58 ∷ (58 ∷ q) = e ∙ ap (λ z. z ++ 58 ∷ (58 ∷ q)) cs in
    (cc, inl (refl, (q, (b, tl, omega (arith, le)), cc)))
rest_colon false n c t (inr (suc a, b, r, q, (g, x, i, h, w), tl, le, e)) =
    let d : c ∷ t ≡ 58 ∷ ((g ++ x) ++ 58 ∷ (58 ∷ q)) = e ∙ ap (λ z. z ++ 58 ∷ (58 ∷ q)) w in
    let u : t ≡ (g ++ x) ++ 58 ∷ (58 ∷ q) = cc in
    (cc, inr (inl (g, x ++ 58 ∷ (58 ∷ q), i, inr (a, b, x, q, h, tl, omega (arith, le), refl), u ∙ append_assoc g x (58 ∷ (58 ∷ q)))))

pub colon_rest : (b : Bool) (n : ℕ) (t : List ℕ) → AfterColon b n t → Rest b n (58 ∷ t)
colon_rest true n t (inl (f, x)) = cc
colon_rest true n t (inr (inl (g, r, i, (m, h, le), e))) = (suc m, inl (g, r, i, h, ap (λ z. 58 ∷ z) e), omega (arith, le))
colon_rest true n t (inr (inr (v, le))) = (2, inr (refl, (t, v, refl)), le)
colon_rest false n t (inl (f, (w, (m, tl, le), e))) = inr (0, m, [], w, refl, tl, omega (arith, le), ap (λ z. 58 ∷ z) e)
colon_rest false n t (inr (inl (g, r, i, inl (m, h, le), e))) = inl (suc m, inl (g, r, i, h, ap (λ z. 58 ∷ z) e), omega (arith, le))
colon_rest false n t (inr (inl (g, r, i, inr (a, b, x, q, cs, tl, le, d), e))) =
    inr (
      suc a,
      b,
      58 ∷ (g ++ x),
      q,
      (g, x, i, cs, refl),
      tl,
      omega (arith, le),
      ap (λ z. 58 ∷ z) (e ∙ ap (λ z. g ++ z) d ∙ sym (append_assoc g x (58 ∷ (58 ∷ q)))),
    )
colon_rest false n t (inr (inr (v, f))) = inl (2, inr (refl, (t, v, refl)), f)

begins_of : (n : ℕ) (w : List ℕ) → AfterColon true n w → Begins true n w
begins_of n w (inl (f, x)) = cc
begins_of n w (inr h) = h

pub double_of : (n : ℕ) (w : List ℕ) → AfterDouble n w → ((w ≡ []) × (n ≤ 7)) ⊎ Begins true n w
double_of n w (zero, inl e, le) = inl (e, omega (arith, le))
double_of n w (zero, inr (inl (z, v)), le) = absurd (omega (arith, z))
double_of n w (zero, inr (inr (z, x)), le) = absurd (omega (arith, z))
double_of n w (suc m, tl, le) = inr (begins_of n w (rest_colon true n 58 w (suc m, tail_colons m w tl, le)).1)

tail_after : (n : ℕ) (w : List ℕ) → Rest true n (58 ∷ w) → AfterDouble n w
tail_after n w (zero, h, le) = cc
tail_after n w (suc m, h, le) = (suc m, colons_of_tail m w h, le)

pub of_double : (n : ℕ) (w : List ℕ) → ((w ≡ []) × (n ≤ 7)) ⊎ Begins true n w → AfterDouble n w
of_double n w (inl (e, le)) = (0, inl e, omega (arith, le))
of_double n w (inr h) = tail_after n w (colon_rest true n w (inr h))

abbrev pub Opens : List ℕ → Type 0
Opens t = ((w : List ℕ) × AfterDouble 0 w × (t ≡ 58 ∷ (58 ∷ w))) ⊎ Begins false 0 t

eight_begin : (t : List ℕ) → ColonTail 8 (58 ∷ t) → Begins false 0 t
eight_begin t (inl (g, r, i, h, e)) = inl (g, r, i, inl (7, h, refl), cc)
eight_begin t (inr (o, x)) = absurd (omega (arith, o))

pub ipv6_opens : (t : List ℕ) → IsIpv6 t → Opens t
ipv6_opens t (inl tl) = inr (eight_begin t (tail_colons 7 t tl))
ipv6_opens t (inr (zero, b, r, q, run, tl, le, e)) = inl (q, (b, tl, omega (arith, le)), e ∙ ap (λ z. z ++ 58 ∷ (58 ∷ q)) run)
ipv6_opens t (inr (suc a, b, r, q, run, tl, le, e)) =
    let (g, x, i, h, w) = run_colons a r run in
    let u : r ≡ g ++ x = cc in
    inr (inl (
      g,
      x ++ 58 ∷ (58 ∷ q),
      i,
      inr (a, b, x, q, h, tl, omega (arith, le), refl),
      e ∙ ap (λ z. z ++ 58 ∷ (58 ∷ q)) u ∙ append_assoc g x (58 ∷ (58 ∷ q)),
    ))

pub opens_ipv6 : (t : List ℕ) → Opens t → IsIpv6 t
opens_ipv6 t (inl (w, (m, tl, le), e)) = inr (0, m, [], w, refl, tl, omega (arith, le), e)
opens_ipv6 t (inr (inl (g, r, i, inl (m, h, le), e))) =
    let k : suc m ≡ 8 = omega (arith, le) in
    inl (subst (λ z. IsTail z t) k (colons_of_tail m t (inl (g, r, i, h, ap (λ z. 58 ∷ z) e))))
opens_ipv6 t (inr (inl (g, r, i, inr (a, b, x, q, cs, tl, le, d), e))) =
    inr (
      suc a,
      b,
      g ++ x,
      q,
      colons_run a (g ++ x) (g, x, i, cs, refl),
      tl,
      omega (arith, le),
      e ∙ ap (λ z. g ++ z) d ∙ sym (append_assoc g x (58 ∷ (58 ∷ q))),
    )
opens_ipv6 t (inr (inr (v, f))) = absurd (omega (arith, f))

-- Rest leaves room
pub rest_few : (b : Bool) (n : ℕ) (t : List ℕ) → Rest b n t → n ≤ 8
rest_few true n t (m, h, le) = omega (arith, le)
rest_few false n t (inl (m, h, le)) = omega (arith, le)
rest_few false n t (inr (a, b, r, q, cs, tl, le, e)) = omega (arith, le)
