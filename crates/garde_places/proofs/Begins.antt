-- Each token of a text of good tokens begins at the place that the scan found for it.
use Rattle.std.proofs.Common.{◌≡◌, ℕ, zero, suc, ◌<◌, List, [], ◌∷◌, length, take, drop, get_or, Bool, true, false, Option, Some, None, refl, sym, ap, ◌∙◌, subst, arith, true≢false, ⊎_elim, ◌==◌, ◌||◌}
use Rattle.std.proofs.lemmas.Bool.{eqb-true, or_cases}
use Rattle.std.specs.Prelude.{⊤}
use Rattle.json.specs.Token.{Token, begin_object, end_object, begin_array, end_array, key, string, number, boolean, null, bad}
use Rattle.json.specs.Text.{content, plain}
use Rattle.json.specs.Word.{is_space, word}
use Rattle.json.specs.Lex as json
use Rattle.json.specs.Lex.{Class, quote, backslash, operator, space, other, class, Lexeme, token, comma, colon, operator_lexeme, string_token, lex_byte, lex, between, fresh, after_value, after_comma, after_key, may_begin, may_close, begins_colon, if_allowed, place_token, punctuate, tokens}
use Rattle.garde_tape.specs.declared.place.Place.{Place}
use Rattle.garde_places.specs.declared.lex.Mode.{Mode}
use Rattle.garde_places.specs.declared.lex.Mode.TheVariants.{Between, Word, Text, Escape}
use Rattle.garde_tape.specs.Place.{past, place_after}
use Rattle.garde_places.specs.Lex.{json_mode, is_token, begins_by, mode_by, begins_at, mode_after}
use Rattle.garde_places.specs.Scan.{put_if, spots}
use Rattle.garde_places.specs.Text.{BeginsAt, AreGood, is_gap}

-- ---- what the lexer gives at a byte

abbrev emitted : Mode → Class → ℕ → List ℕ → Option Lexeme
emitted Between quote x xs = Some (token (string_token (content plain xs)))
emitted Between backslash x xs = Some (token bad)
emitted Between operator x xs = Some (operator_lexeme x)
emitted Between space x xs = None
emitted Between other x xs = Some (token (word (x ∷ xs)))
emitted Word quote x xs = None
emitted Word backslash x xs = None
emitted Word operator x xs = Some (operator_lexeme x)
emitted Word space x xs = None
emitted Word other x xs = None
emitted Text c x xs = None
emitted Escape c x xs = None

abbrev with_lexeme : Option Lexeme → List Lexeme → List Lexeme
with_lexeme None ls = ls
with_lexeme (Some l) ls = l ∷ ls

abbrev begins : Option Lexeme → Bool
begins None = false
begins (Some l) = is_token l

lex_turn : (m : Mode) (c : Class) (x : ℕ) (xs : List ℕ) (k : json.Mode → List Lexeme) → lex_byte (json_mode m) c x xs k ≡ with_lexeme (emitted m c x xs) (k (json_mode (mode_by m c)))
lex_turn Between quote x xs k = refl
lex_turn Between backslash x xs k = refl
lex_turn Between operator x xs k = refl
lex_turn Between space x xs k = refl
lex_turn Between other x xs k = refl
lex_turn Word quote x xs k = refl
lex_turn Word backslash x xs k = refl
lex_turn Word operator x xs k = refl
lex_turn Word space x xs k = refl
lex_turn Word other x xs k = refl
lex_turn Text quote x xs k = refl
lex_turn Text backslash x xs k = refl
lex_turn Text operator x xs k = refl
lex_turn Text space x xs k = refl
lex_turn Text other x xs k = refl
lex_turn Escape c x xs k = refl

begins_is : (m : Mode) (c : Class) (x : ℕ) (xs : List ℕ) → begins_by m c x ≡ begins (emitted m c x xs)
begins_is Between quote x xs = refl
begins_is Between backslash x xs = refl
begins_is Between operator x xs = refl
begins_is Between space x xs = refl
begins_is Between other x xs = refl
begins_is Word quote x xs = refl
begins_is Word backslash x xs = refl
begins_is Word operator x xs = refl
begins_is Word space x xs = refl
begins_is Word other x xs = refl
begins_is Text c x xs = refl
begins_is Escape c x xs = refl

-- a byte that gives a lexeme gives the same one, and goes on the same way, where the lexer starts there
abbrev SameAnew : Mode → Class → ℕ → List ℕ → Option Lexeme → Type 0
SameAnew m c x xs None = ⊤
SameAnew m c x xs (Some l) = (emitted Between c x xs ≡ Some l) × (mode_by Between c ≡ mode_by m c)

same_anew : (m : Mode) (c : Class) (x : ℕ) (xs : List ℕ) → SameAnew m c x xs (emitted m c x xs)
same_anew Between quote x xs = (refl, refl)
same_anew Between backslash x xs = (refl, refl)
same_anew Between operator x xs = (refl, refl)
same_anew Between space x xs = tt
same_anew Between other x xs = (refl, refl)
same_anew Word quote x xs = tt
same_anew Word backslash x xs = tt
same_anew Word operator x xs = (refl, refl)
same_anew Word space x xs = tt
same_anew Word other x xs = tt
same_anew Text c x xs = tt
same_anew Escape c x xs = tt

lex_at : (m : Mode) (x : ℕ) (xs : List ℕ) → lex (json_mode m) (x ∷ xs) ≡ with_lexeme (emitted m (class x) x xs) (lex (json_mode (mode_after m x)) xs)
unfolding lex
lex_at m x xs = lex_turn m (class x) x xs (λ next. lex next xs)

-- ---- commas and colons

-- a good token stands there, and would stand there too if the text began with it
abbrev Placed : json.Place → Lexeme → List Lexeme → Type 0
Placed p l ls = (t : Token) × (q : json.Place) × (punctuate p (l ∷ ls) ≡ t ∷ punctuate q ls) × (punctuate fresh (l ∷ ls) ≡ t ∷ punctuate q ls)

-- a comma or a colon gives no token
abbrev Passed : json.Place → Lexeme → List Lexeme → Type 0
Passed p l ls = (q : json.Place) × (punctuate p (l ∷ ls) ≡ punctuate q ls)

abbrev IsBegin : json.Place → Token → Bool → (json.Place → List Token) → Type 0
IsBegin p t b k = (u : Token) × (q : json.Place) × (place_token p t b k ≡ u ∷ k q) × (place_token fresh t b k ≡ u ∷ k q)

never : {P : Type 0} (ts : List Token) → AreGood (bad ∷ ts) → P
never ts h = absurd (true≢false (sym h.0))

allowed : (b : Bool) (t : Token) (k : json.Place → List Token) (q : json.Place) → AreGood (if_allowed b t k q) → if_allowed b t k q ≡ t ∷ k q
allowed true t k q h = refl
allowed false t k q h = never [] h

placed_string : (p : json.Place) (s : List ℕ) (b : Bool) (k : json.Place → List Token) → AreGood (place_token p (string s) b k) → IsBegin p (string s) b k
placed_string p s true k h = (key s, after_key, allowed (may_begin p) (key s) k after_key h, refl)
placed_string p s false k h = (string s, after_value, allowed (may_begin p) (string s) k after_value h, refl)

placed : (p : json.Place) (t : Token) (b : Bool) (k : json.Place → List Token) → AreGood (place_token p t b k) → IsBegin p t b k
placed p begin_object b k h = (begin_object, fresh, allowed (may_begin p) begin_object k fresh h, refl)
placed p end_object b k h = (end_object, after_value, allowed (may_close p) end_object k after_value h, refl)
placed p begin_array b k h = (begin_array, fresh, allowed (may_begin p) begin_array k fresh h, refl)
placed p end_array b k h = (end_array, after_value, allowed (may_close p) end_array k after_value h, refl)
placed p (key s) b k h = never [] h
placed p (string s) b k h = placed_string p s b k h
placed p (number s) b k h = (number s, after_value, allowed (may_begin p) (number s) k after_value h, refl)
placed p (boolean x) b k h = (boolean x, after_value, allowed (may_begin p) (boolean x) k after_value h, refl)
placed p null b k h = (null, after_value, allowed (may_begin p) null k after_value h, refl)
placed p bad b k h = never [] h

token_placed : (p : json.Place) (t : Token) (ls : List Lexeme) → AreGood (punctuate p (token t ∷ ls)) → Placed p (token t) ls
unfolding punctuate
token_placed fresh t ls h = placed fresh t (begins_colon ls) (λ next. punctuate next ls) h
token_placed after_value t ls h = placed after_value t (begins_colon ls) (λ next. punctuate next ls) h
token_placed after_comma t ls h = placed after_comma t (begins_colon ls) (λ next. punctuate next ls) h
token_placed after_key t ls h = placed after_key t (begins_colon ls) (λ next. punctuate next ls) h

comma_passed : (p : json.Place) (ls : List Lexeme) → AreGood (punctuate p (comma ∷ ls)) → Passed p comma ls
unfolding punctuate
comma_passed fresh ls h = never [] h
comma_passed after_value ls h = (after_comma, refl)
comma_passed after_comma ls h = never [] h
comma_passed after_key ls h = never [] h

colon_passed : (p : json.Place) (ls : List Lexeme) → AreGood (punctuate p (colon ∷ ls)) → Passed p colon ls
unfolding punctuate
colon_passed fresh ls h = never [] h
colon_passed after_value ls h = never [] h
colon_passed after_comma ls h = never [] h
colon_passed after_key ls h = (fresh, refl)

-- ---- a text

abbrev pub at_once : json.Place → Mode → List ℕ → List Token
at_once p m text = punctuate p (lex (json_mode m) text)

-- where the token at this index begins, in a text that stands here
abbrev pub Found : List ℕ → Place → List Place → List Token → ℕ → Type 0
Found text here places ts k = (offset : ℕ) × BeginsAt text offset (drop k ts) × ((d : Place) → get_or places k d ≡ place_after here (take offset text)) × (k < length places)

further : (x : ℕ) (xs : List ℕ) (here : Place) (places : List Place) (ts : List Token) (k : ℕ) → Found xs (past here x) places ts k → Found (x ∷ xs) here places ts k
further x xs here places ts k f = (suc f.0, record { inside = omega (arith, f.1.inside); tokens = f.1.tokens; solid = f.1.solid }, f.2, f.3)

pushed : (x : ℕ) (xs : List ℕ) (here p : Place) (places : List Place) (t : Token) (ts : List Token) (k : ℕ) → Found (x ∷ xs) here places ts k → Found (x ∷ xs) here (p ∷ places) (t ∷ ts) (suc k)
pushed x xs here p places t ts k f = (f.0, f.1, f.2, omega (arith, f.3))

anew : (m : Mode) (x : ℕ) (xs : List ℕ) (l : Lexeme) → emitted m (class x) x xs ≡ Some l → tokens (x ∷ xs) ≡ punctuate fresh (l ∷ lex (json_mode (mode_after m x)) xs)
anew m x xs l e =
    let s = subst (SameAnew m (class x) x xs) e (same_anew m (class x) x xs) in
    ap (punctuate fresh) (lex_at Between x xs ∙ ap (λ o. with_lexeme o (lex (json_mode (mode_after Between x)) xs)) s.0 ∙ ap (λ q. l ∷ lex (json_mode q) xs) s.1)

-- a token begins at no gap
module _ (x : ℕ) (e : begins_at Between x ≡ true) where
  not_at : {P : Type 0} (n : ℕ) → begins_at Between n ≡ false → (x == n) ≡ true → P
  not_at n never is = absurd (true≢false (sym e ∙ ap (begins_at Between) (eqb-true x n is) ∙ never))

  not_space : {P : Type 0} → is_space x ≡ true → P
  not_space h =
      ⊎_elim
      (λ p. ⊎_elim (λ q. ⊎_elim (not_at 32 refl) (not_at 9 refl) (or_cases (x == 32) (x == 9) q)) (not_at 10 refl) (or_cases ((x == 32) || (x == 9)) (x == 10) p))
      (not_at 13 refl) (or_cases (((x == 32) || (x == 9)) || (x == 10)) (x == 13) h)

  not_gap : {P : Type 0} → is_gap x ≡ true → P
  not_gap h = ⊎_elim (λ p. ⊎_elim (λ q. not_space q) (not_at 44 refl) (or_cases (is_space x) (x == 44) p)) (not_at 58 refl) (or_cases (is_space x || (x == 44)) (x == 58) h)

gap_class : (b : Bool) (x : ℕ) → is_gap x ≡ b → begins_at Between x ≡ true → b ≡ false
gap_class true x is e = not_gap x e is
gap_class false x is e = refl

no_gap : (m : Mode) (x : ℕ) (xs : List ℕ) (t : Token) → emitted m (class x) x xs ≡ Some (token t) → is_gap x ≡ false
no_gap m x xs t e =
    let s = subst (SameAnew m (class x) x xs) e (same_anew m (class x) x xs) in
    gap_class (is_gap x) x refl (begins_is Between (class x) x xs ∙ ap begins s.0)

abbrev pub Wanted : List ℕ → Type 0
Wanted text = (m : Mode) (p : json.Place) (here : Place) (k : ℕ) → AreGood (at_once p m text) → k < length (at_once p m text) → Found text here (spots m here text) (at_once p m text) k

module _ (x : ℕ) (xs : List ℕ) (again : Wanted xs) where
  at_token : (m : Mode) (here : Place) (q : json.Place) (t : Token) (k : ℕ) → is_gap x ≡ false → tokens (x ∷ xs) ≡ t ∷ at_once q (mode_after m x) xs → AreGood (at_once q (mode_after m x) xs) → k < suc (length (at_once q (mode_after m x) xs))
      → Found (x ∷ xs) here (here ∷ spots (mode_after m x) (past here x) xs) (t ∷ at_once q (mode_after m x) xs) k
  at_token m here q t zero gap e h less = (0, record { inside = omega arith; tokens = e; solid = gap }, λ d. refl, omega arith)
  at_token m here q t (suc k) gap e h less = pushed x xs here here _ t _ k (further x xs here _ _ k (again (mode_after m x) q (past here x) k h (omega (arith, less))))

  turn : (m : Mode) (p : json.Place) (here : Place) (k : ℕ) (o : Option Lexeme) → emitted m (class x) x xs ≡ o → AreGood (punctuate p (with_lexeme o (lex (json_mode (mode_after m x)) xs)))
      → k < length (punctuate p (with_lexeme o (lex (json_mode (mode_after m x)) xs)))
      → Found (x ∷ xs) here (put_if (begins o) here (spots (mode_after m x) (past here x) xs)) (punctuate p (with_lexeme o (lex (json_mode (mode_after m x)) xs))) k
  turn m p here k None e h less = further x xs here _ _ k (again (mode_after m x) p (past here x) k h less)
  turn m p here k (Some comma) e h less =
      let f = comma_passed p _ h in
      let good = subst AreGood f.1 h in
      let few = subst (λ ts. k < length ts) f.1 less in
      subst (λ ts. Found (x ∷ xs) here (spots (mode_after m x) (past here x) xs) ts k) (sym f.1) (further x xs here _ _ k (again (mode_after m x) f.0 (past here x) k good few))
  turn m p here k (Some colon) e h less =
      let f = colon_passed p _ h in
      let good = subst AreGood f.1 h in
      let few = subst (λ ts. k < length ts) f.1 less in
      subst (λ ts. Found (x ∷ xs) here (spots (mode_after m x) (past here x) xs) ts k) (sym f.1) (further x xs here _ _ k (again (mode_after m x) f.0 (past here x) k good few))
  turn m p here k (Some (token t)) e h less =
      let f = token_placed p t _ h in
      let good = subst AreGood f.2 h in
      let few : k < suc (length (at_once f.1 (mode_after m x) xs)) = omega (arith, subst (λ ts. k < length ts) f.2 less) in
      subst (λ ts. Found (x ∷ xs) here (here ∷ spots (mode_after m x) (past here x) xs) ts k) (sym f.2) (at_token m here f.1 f.0 k (no_gap m x xs t e) (anew m x xs (token t) e ∙ f.3) good.1 few)

nothing_left : {P : Type 0} (p : json.Place) (k : ℕ) → AreGood (punctuate p []) → k < length (punctuate p []) → P
unfolding punctuate
nothing_left fresh k h less = absurd (omega (arith, less))
nothing_left after_value k h less = absurd (omega (arith, less))
nothing_left after_comma k h less = never [] h
nothing_left after_key k h less = never [] h

pub all_found : (text : List ℕ) → Wanted text
unfolding lex
all_found [] m p here k h less = nothing_left p k h less
all_found (x ∷ xs) m p here k h less =
    let e = lex_at m x xs in
    let o = emitted m (class x) x xs in
    let good = subst (λ ls. AreGood (punctuate p ls)) e h in
    let few = subst (λ ls. k < length (punctuate p ls)) e less in
    let places = spots (mode_after m x) (past here x) xs in
    subst (λ ls. Found (x ∷ xs) here (put_if (begins_at m x) here places) (punctuate p ls) k) (sym e)
    (subst (λ b. Found (x ∷ xs) here (put_if b here places) (punctuate p (with_lexeme o (lex (json_mode (mode_after m x)) xs))) k) (sym (begins_is m (class x) x xs)) (turn x xs (all_found xs) m p here k o refl good few))
