-- The token before a member's value is its name.
use Rattle.std.proofs.Common.{◌≡◌, ℕ, suc, ◌+◌, ◌-◌, ◌<◌, List, ◌∷◌, ◌++◌, length, drop, Bool, true, false, cond, Option, Some, None, refl, sym, ap, ◌∙◌, subst, arith, bytes_eq, append_assoc}
use Rattle.std.specs.Prelude.{is_some, option_map}
use Rattle.std.proofs.Math.Seq.{drop-append-add}
use Rattle.std.proofs.lemmas.Slice.Eq.{bytes_eq-Decides}
use Rattle.json.specs.Token.{Token, key}
use Rattle.json.specs.Json.{Json, null, boolean, number, string, array, object, Members, no_members, member}
use Rattle.json.specs.Tree.{json_tokens, members_tokens}
use Rattle.json.specs.Find.{later_or, get_member, get, as_object}
use Rattle.json.proofs.Found.{not_found, Some_inj}
use Rattle.garde_places.specs.Steps.{behind, before_member, before_named, name_behind, before_name, named_spot, Spells}

-- the tokens begin with a member
abbrev pub NamedAt : List Token → List ℕ → Json → Type 0
NamedAt ts name i = (rest : List Token) × (ts ≡ key name ∷ (json_tokens i ++ rest))

some_before : (o : Option Json) (n : ℕ) → 0 < behind o (suc n)
some_before None n = omega arith
some_before (Some j) n = omega arith

member_some : (name : List ℕ) (ms : Members) (i : Json) → get_member name ms ≡ Some i → 0 < before_member name ms
member_some name no_members i e = not_found i e
member_some name (member k j ms) i e = some_before (get_member name ms) (length (json_tokens j) + before_member name ms)

named_here : (c : Bool) (name k : List ℕ) (j i : Json) (more : List Token) → bytes_eq k name ≡ c → cond c (Some j) None ≡ Some i → NamedAt (key k ∷ (json_tokens j ++ more)) name i
named_here true name k j i more is e =
    (more, ap (λ n. key n ∷ (json_tokens j ++ more)) ((bytes_eq-Decides k name).0 is) ∙ ap (λ v. key name ∷ (json_tokens v ++ more)) (Some_inj j i e))
named_here false name k j i more is e = not_found i e

named_turn : (name k : List ℕ) (j : Json) (ms : Members) (more : List Token) (i : Json) (o : Option Json) → get_member name ms ≡ o
    → ((l : Json) → get_member name ms ≡ Some l → NamedAt (drop (before_member name ms - 1) more) name l)
    → later_or o (cond (bytes_eq k name) (Some j) None) ≡ Some i → NamedAt (drop (behind o (suc (length (json_tokens j) + before_member name ms)) - 1) (key k ∷ (json_tokens j ++ more))) name i
named_turn name k j ms more i None is later e = named_here (bytes_eq k name) name k j i more refl e
named_turn name k j ms more i (Some l) is later e =
    let f = later l is in
    let n = before_member name ms in
    let len = length (json_tokens j) in
    let sum : suc (len + n) - 1 ≡ suc (len + (n - 1)) = omega (arith, member_some name ms l is) in
    (f.0, ap (λ m. drop m (key k ∷ (json_tokens j ++ more))) sum ∙ drop-append-add (json_tokens j) more (n - 1) ∙ f.1 ∙ ap (λ v. key name ∷ (json_tokens v ++ f.0)) (Some_inj l i e))

member_named : (name : List ℕ) (ms : Members) (rest : List Token) (i : Json) → get_member name ms ≡ Some i → NamedAt (drop (before_member name ms - 1) (members_tokens ms ++ rest)) name i
member_named name no_members rest i e = not_found i e
member_named name (member k j ms) rest i e =
    subst (λ l. NamedAt (drop (before_member name (member k j ms) - 1) (key k ∷ l)) name i) (sym (append_assoc (json_tokens j) (members_tokens ms) rest))
    (named_turn name k j ms (members_tokens ms ++ rest) i (get_member name ms) refl (λ l. member_named name ms rest l) e)

pub named_some : (name : List ℕ) (j i : Json) → get name j ≡ Some i → 1 < before_named name j
named_some name null i e = not_found i e
named_some name (boolean b) i e = not_found i e
named_some name (number s) i e = not_found i e
named_some name (string s) i e = not_found i e
named_some name (array js) i e = not_found i e
named_some name (object ms) i e = omega (arith, member_some name ms i e)

spelled_name : (name : List ℕ) (j : Json) (rest : List Token) (i : Json) → get name j ≡ Some i → NamedAt (drop (before_named name j - 1) (json_tokens j ++ rest)) name i
spelled_name name null rest i e = not_found i e
spelled_name name (boolean b) rest i e = not_found i e
spelled_name name (number s) rest i e = not_found i e
spelled_name name (string s) rest i e = not_found i e
spelled_name name (array js) rest i e = not_found i e
spelled_name name (object ms) rest i e =
    let sum : suc (before_member name ms) - 1 ≡ suc (before_member name ms - 1) = omega (arith, member_some name ms i e) in
    let there = member_named name ms rest i e in
    (there.0, ap (λ m. drop m (json_tokens (object ms) ++ rest)) sum ∙ there.1)

pub named : (name : List ℕ) (j : Json) (ts : List Token) (i : Json) → get name j ≡ Some i → Spells ts j → NamedAt (drop (before_named name j - 1) ts) name i
named name j ts i e h = subst (λ l. NamedAt (drop (before_named name j - 1) l) name i) (sym h.1) (spelled_name name j h.0 i e)

-- ---- what the code does

pub no_name_there : (start : ℕ) (name : List ℕ) (j : Json) → get name j ≡ None → start ≡ start + before_name name j
no_name_there start name j e = let n : start ≡ start + 0 = omega arith in n ∙ ap (λ o. start + name_behind o (before_named name j)) (sym e)

pub not_among : (start : ℕ) (name : List ℕ) (j : Json) → false ≡ is_some (as_object j) → get name j ≡ None
not_among start name null e = refl
not_among start name (boolean b) e = refl
not_among start name (number s) e = refl
not_among start name (string s) e = refl
not_among start name (array js) e = refl
not_among start name (object ms) e = cc

pub name_there : (start value : ℕ) (name : List ℕ) (j : Json) → Some value ≡ named_spot start name j → value - 1 ≡ start + before_name name j
name_there start value name j e = cases (get name j) refl e
  where
    cases : (o : Option Json) → get name j ≡ o → Some value ≡ option_map (λ i. start + before_named name j) o → value - 1 ≡ start + before_name name j
    cases None is h = not_found value (sym h)
    cases (Some i) is h =
        let some = named_some name j i is in
        let sum : value - 1 ≡ start + (before_named name j - 1) = omega (arith, Some_inj _ _ h, some) in
        sum ∙ ap (λ o. start + name_behind o (before_named name j)) (sym is)

pub name_missing : (start : ℕ) (name : List ℕ) (j : Json) → None ≡ named_spot start name j → get name j ≡ None
name_missing start name j e = cases (get name j) e
  where
    cases : (o : Option Json) → None ≡ option_map (λ i. start + before_named name j) o → o ≡ None
    cases None h = refl
    cases (Some i) h = not_found _ h
