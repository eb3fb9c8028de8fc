-- One walk over the members finds how many have a name, and the value of the last of them.
use Rattle.std.proofs.Common.{◌≡◌, ℕ, suc, ◌+◌, List, ◌∷◌, true, false, cond, Option, Some, None, option_map, refl, sym, ap, ◌∙◌, zero-add, arith}
use Rattle.std.proofs.lemmas.Bool.{lt-ltb}
use Rattle.std.specs.Str.{bytes_eq}
use Rattle.json.specs.Json.{Json, null, boolean, number, string, array, object, Members, no_members, member}
use Rattle.json.specs.Find.{later_or, get, get_member, as_object}
use Rattle.garde_tape.specs.Reading.{member_list}
use Rattle.garde_tape.specs.declared.found.Found.TheVariants.{Missing, Once, Repeated}
use Rattle.garde_tape.specs.Look.{times_in, answer_of, find_answer, get_in, one_if_some, answer_from}

pub get_in-list : (name : List ℕ) (ms : Members) → get_member name ms ≡ get_in name (member_list ms)
get_in-list name no_members = refl
get_in-list name (member k j ms) = ap (λ o. later_or o (cond (bytes_eq k name) (Some j) None)) (get_in-list name ms)

later_or-none : (o : Option Json) → later_or o None ≡ o
later_or-none None = refl
later_or-none (Some j) = refl

answer_before : (name : List ℕ) (ms : List (List ℕ × Json)) → answer_of (times_in name ms) (get_in name ms) ≡ answer_from name None ms
answer_before name ms =
    ap (λ o. answer_of (times_in name ms) o) (sym (later_or-none (get_in name ms)))
    ∙ ap (λ n. answer_of n (later_or (get_in name ms) None)) (sym (zero-add (times_in name ms)))

-- at the start of the walk over an object
pub answer_at_start : (name : List ℕ) (j : Json) (ms : List (List ℕ × Json)) → Some ms ≡ option_map member_list (as_object j) → find_answer name j ≡ answer_from name None ms
answer_at_start name null ms e = cc
answer_at_start name (boolean b) ms e = cc
answer_at_start name (number s) ms e = cc
answer_at_start name (string s) ms e = cc
answer_at_start name (array js) ms e = cc
answer_at_start name (object all) ms e =
    let same : member_list all ≡ ms = cc in
    ap (answer_of (times_in name (member_list all))) (get_in-list name all)
    ∙ answer_before name (member_list all)
    ∙ ap (answer_from name None) same

one_more : (n : ℕ) (o : Option Json) (j : Json) → answer_of (0 + suc n) (later_or (later_or o (Some j)) None) ≡ answer_of (1 + n) (later_or o (Some j))
one_more n None j = ap (λ k. answer_of k (Some j)) (omega arith)
one_more n (Some i) j = ap (λ k. answer_of k (Some i)) (omega arith)

-- a member of the name, where none was before
pub at_hit : (name k : List ℕ) (j : Json) (ms : List (List ℕ × Json)) → bytes_eq k name ≡ true → answer_from name None ((k, j) ∷ ms) ≡ answer_from name (Some j) ms
at_hit name k j ms e = rw e (one_more (times_in name ms) (get_in name ms) j)

as_before : (n : ℕ) (o first : Option Json) → answer_of (one_if_some first + n) (later_or (later_or o None) first) ≡ answer_of (one_if_some first + n) (later_or o first)
as_before n None first = refl
as_before n (Some i) first = refl

-- a member of another name changes nothing
pub at_miss : (name k : List ℕ) (j : Json) (first : Option Json) (ms : List (List ℕ × Json)) → bytes_eq k name ≡ false → answer_from name first ((k, j) ∷ ms) ≡ answer_from name first ms
at_miss name k j first ms e = rw e (as_before (times_in name ms) (get_in name ms) first)

two : (n : ℕ) (o : Option Json) (i j : Json) → answer_of (1 + suc n) (later_or (later_or o (Some j)) (Some i)) ≡ Repeated
two n None i j = ap (λ b. cond b Repeated (Once j)) (lt-ltb 1 (1 + suc n) (omega arith))
two n (Some k) i j = ap (λ b. cond b Repeated (Once k)) (lt-ltb 1 (1 + suc n) (omega arith))

-- a second member of the name
pub at_second : (name k : List ℕ) (i j : Json) (ms : List (List ℕ × Json)) → bytes_eq k name ≡ true → answer_from name (Some i) ((k, j) ∷ ms) ≡ Repeated
at_second name k i j ms e = rw e (two (times_in name ms) (get_in name ms) i j)

-- of a value that is no object
pub no_object_answer : (name : List ℕ) (j : Json) → as_object j ≡ None → Missing ≡ find_answer name j
no_object_answer name null e = refl
no_object_answer name (boolean b) e = refl
no_object_answer name (number s) e = refl
no_object_answer name (string s) e = refl
no_object_answer name (array js) e = refl
no_object_answer name (object all) e = cc

-- the last member of a name, of an object with these members
pub got_in : (name : List ℕ) (j : Json) (ms : List (List ℕ × Json)) → Some ms ≡ option_map member_list (as_object j) → get_in name ms ≡ get name j
got_in name null ms e = cc
got_in name (boolean b) ms e = cc
got_in name (number s) ms e = cc
got_in name (string s) ms e = cc
got_in name (array js) ms e = cc
got_in name (object all) ms e =
    let same : member_list all ≡ ms = cc in
    ap (get_in name) (sym same) ∙ sym (get_in-list name all)
