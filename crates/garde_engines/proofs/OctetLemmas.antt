-- The octet at the start of a text, by its digits.
use Rattle.std.proofs.Common.{◌≡◌, ℕ, ◌+◌, ◌*◌, ◌<◌, ◌≤◌, List, [], ◌∷◌, ◌++◌, length, refl, sym, ap, ◌∙◌, subst, arith, append-nil, Bool, true, eqb}
use Rattle.std.specs.Bool.{Decides}
use Rattle.std.specs.Char.{digit_value}
use Rattle.std.proofs.lemmas.Bool.Decides.{nat_tests}
use Rattle.garde_engines.specs.Ip.{IsOctet}
use Rattle.garde_engines.specs.Octets.{NoDigit, Ends, NoOctet, FirstOctet}

-- the value of a digit
value_of : (d : ℕ) → d < 10 → digit_value (48 + d) ≡ d
value_of d h = grind (arith, nat_tests)

-- a digit is no `.`
digit_goes_on : (d : ℕ) (r t : List ℕ) → Ends r → r ≡ (48 + d) ∷ t → ⊥
digit_goes_on d [] t ends e = cc
digit_goes_on d (c ∷ r) t ends e =
    let k : c ≡ 48 + d = cc in
    omega (arith, ends, k)

-- no digit, no octet
pub octet_none : (text : List ℕ) → NoDigit text → NoOctet text
octet_none text n [] r i ends e = omega (arith, i.0.0)
octet_none text n (c ∷ o) r i ends e = omega (arith, i.0.1.0, n c (o ++ r) e)

-- ---- `0`

zero_only : (text rest : List ℕ) → text ≡ 48 ∷ rest → (o r : List ℕ) → IsOctet o → Ends r → text ≡ o ++ r → r ≡ rest
zero_only text rest h [] r i ends e = absurd (omega (arith, i.0.0))
zero_only text rest h (c ∷ []) r i ends e = cc
zero_only text rest h (c ∷ (d ∷ o)) r i ends e =
    let k : c ≡ 48 = cc in
    let one = i.3 k in
    absurd (omega (arith, one))

pub octet_zero : (text rest : List ℕ) → text ≡ 48 ∷ rest → FirstOctet text rest
octet_zero text rest h = record {
  octet = 48 ∷ [];
  is = ((omega arith, (omega arith, tt)), omega arith, omega arith, λ _. refl);
  cut = h;
  only = zero_only text rest h;
}

-- ---- one digit

one_only : (text rest : List ℕ) (a : ℕ) → text ≡ (48 + a) ∷ rest → NoDigit rest → (o r : List ℕ) → IsOctet o → Ends r → text ≡ o ++ r → r ≡ rest
one_only text rest a h n [] r i ends e = absurd (omega (arith, i.0.0))
one_only text rest a h n (c ∷ []) r i ends e = cc
one_only text rest a h n (c ∷ (d ∷ o)) r i ends e =
    let k : rest ≡ d ∷ (o ++ r) = cc in
    absurd (omega (arith, i.0.1.1.0, n d (o ++ r) k))

pub octet_one : (text rest : List ℕ) (a : ℕ) → a < 10 → text ≡ (48 + a) ∷ rest → NoDigit rest → FirstOctet text rest
octet_one text rest a la h n =
    let va = value_of a la in
    record {
      octet = (48 + a) ∷ [];
      is = ((omega arith, (omega (arith, va), tt)), omega arith, omega (arith, va), λ _. refl);
      cut = h;
      only = one_only text rest a h n;
    }

-- ---- two digits

two_only : (text rest : List ℕ) (a b : ℕ) → text ≡ (48 + a) ∷ ((48 + b) ∷ rest) → NoDigit rest →
    (o r : List ℕ) → IsOctet o → Ends r → text ≡ o ++ r → r ≡ rest
two_only text rest a b h n [] r i ends e = absurd (omega (arith, i.0.0))
two_only text rest a b h n (c ∷ []) r i ends e =
    let k : r ≡ (48 + b) ∷ rest = cc in
    absurd (digit_goes_on b r rest ends k)
two_only text rest a b h n (c ∷ (d ∷ [])) r i ends e = cc
two_only text rest a b h n (c ∷ (d ∷ (f ∷ o))) r i ends e =
    let k : rest ≡ f ∷ (o ++ r) = cc in
    absurd (omega (arith, i.0.1.1.1.0, n f (o ++ r) k))

pub octet_two : (text rest : List ℕ) (a b : ℕ) → a < 10 → 0 < a → b < 10 → text ≡ (48 + a) ∷ ((48 + b) ∷ rest) → NoDigit rest → FirstOctet text rest
octet_two text rest a b la pa lb h n =
    let va = value_of a la in
    let vb = value_of b lb in
    record {
      octet = (48 + a) ∷ ((48 + b) ∷ []);
      is = ((omega arith, (omega (arith, va), (omega (arith, vb), tt))), omega arith, omega (arith, va, vb), λ k. absurd (omega (arith, k)));
      cut = h;
      only = two_only text rest a b h n;
    }

-- ---- three digits

abbrev Three : ℕ → ℕ → ℕ → List ℕ → List ℕ
Three a b f rest = (48 + a) ∷ ((48 + b) ∷ ((48 + f) ∷ rest))

three_only : (text rest : List ℕ) (a b f : ℕ) → text ≡ Three a b f rest → (o r : List ℕ) → IsOctet o → Ends r → text ≡ o ++ r → r ≡ rest
three_only text rest a b f h [] r i ends e = absurd (omega (arith, i.0.0))
three_only text rest a b f h (c ∷ []) r i ends e =
    let k : r ≡ (48 + b) ∷ ((48 + f) ∷ rest) = cc in
    absurd (digit_goes_on b r ((48 + f) ∷ rest) ends k)
three_only text rest a b f h (c ∷ (d ∷ [])) r i ends e =
    let k : r ≡ (48 + f) ∷ rest = cc in
    absurd (digit_goes_on f r rest ends k)
three_only text rest a b f h (c ∷ (d ∷ (g ∷ []))) r i ends e = cc
three_only text rest a b f h (c ∷ (d ∷ (g ∷ (z ∷ o)))) r i ends e = absurd (omega (arith, i.1))

pub octet_three : (text rest : List ℕ) (a b f : ℕ) → a < 10 → 0 < a → b < 10 → f < 10 → (a * 10 + b) * 10 + f ≤ 255 → text ≡ Three a b f rest →
    FirstOctet text rest
octet_three text rest a b f la pa lb lf small h =
    let va = value_of a la in
    let vb = value_of b lb in
    let vf = value_of f lf in
    record {
      octet = Three a b f [];
      is = (
        (omega arith, (omega (arith, va), (omega (arith, vb), (omega (arith, vf), tt)))),
        omega arith,
        omega (arith, va, vb, vf, small),
        λ k. absurd (omega (arith, k)),
      );
      cut = h;
      only = three_only text rest a b f h;
    }

pub octet_big : (text rest : List ℕ) (a b f : ℕ) → a < 10 → b < 10 → f < 10 → 255 < (a * 10 + b) * 10 + f → text ≡ Three a b f rest → NoOctet text
octet_big text rest a b f la lb lf big h [] r i ends e = omega (arith, i.0.0)
octet_big text rest a b f la lb lf big h (c ∷ []) r i ends e =
    let k : r ≡ (48 + b) ∷ ((48 + f) ∷ rest) = cc in
    digit_goes_on b r ((48 + f) ∷ rest) ends k
octet_big text rest a b f la lb lf big h (c ∷ (d ∷ [])) r i ends e =
    let k : r ≡ (48 + f) ∷ rest = cc in
    digit_goes_on f r rest ends k
octet_big text rest a b f la lb lf big h (c ∷ (d ∷ (g ∷ []))) r i ends e =
    let kc : c ≡ 48 + a = cc in
    let kd : d ≡ 48 + b = cc in
    let kg : g ≡ 48 + f = cc in
    let vc = ap digit_value kc ∙ value_of a la in
    let vd = ap digit_value kd ∙ value_of b lb in
    let vg = ap digit_value kg ∙ value_of f lf in
    omega (arith, i.2, vc, vd, vg, big)
octet_big text rest a b f la lb lf big h (c ∷ (d ∷ (g ∷ (z ∷ o)))) r i ends e = omega (arith, i.1)

-- ---- the whole text

pub octet_of_first : (text rest : List ℕ) → FirstOctet text rest → rest ≡ [] → IsOctet text
octet_of_first text rest f e =
    let k : f.octet ≡ text = sym (f.cut ∙ ap (λ z. f.octet ++ z) e ∙ append-nil f.octet) in
    subst IsOctet k f.is

pub first_of_octet : (text rest : List ℕ) → FirstOctet text rest → IsOctet text → rest ≡ []
first_of_octet text rest f i = sym (f.only text [] i tt (sym (append-nil text)))

pub none_of_octet : (text : List ℕ) → NoOctet text → IsOctet text → ⊥
none_of_octet text n i = n text [] i tt (sym (append-nil text))

grows : (c : ℕ) (t : List ℕ) → c ∷ t ≡ [] → ⊥
grows c t e = cc

not_empty : (c : ℕ) (t : List ℕ) (b : Bool) → b ≡ eqb (length (c ∷ t)) 0 → b ≡ true → ⊥
not_empty c t b e h = grind (arith, nat_tests)

-- an octet with nothing behind it is the whole text
pub whole_octet : (text rest : List ℕ) (b : Bool) → FirstOctet text rest → b ≡ eqb (length rest) 0 → Decides b (IsOctet text)
whole_octet text [] b f e = ((λ h. octet_of_first text [] f refl), (λ i. e))
whole_octet text (c ∷ rest) b f e = ((λ h. absurd (not_empty c rest b e h)), (λ i. absurd (grows c rest (first_of_octet text (c ∷ rest) f i))))
