-- The users of lines, and a body, have one tree.
use Rattle.std.proofs.Common.{◌≡◌, ℕ, ◌+◌, List, [], ◌∷◌, refl, subst, sym, ap, ◌∙◌, map}
use Rattle.std.specs.declared.alloc.Global.{Global}
use Rattle.std.specs.Prelude.{String, Option, Some, None, string_bytes}
use Rattle.std.specs.List.{AllByRecursion, enumerate_from}
use Rattle.std.proofs.lemmas.List.{length-map}
use Rattle.garde.specs.Fields as words
use Rattle.garde.specs.Visits.{Visits, only, found, ◌and◌, under as visits_under, items, entries, optional}
use Rattle.garde.specs.Trees.{TreesEach}
use Rattle.garde.specs.Tree.{Tree, nothing, under, ◌then◌, found_tree}
use Rattle.garde.specs.Words.{Fault, index_part, key_part}
use Rattle.garde_check.specs.declared.body.Address.{Address}
use Rattle.garde_check.specs.declared.body.Body.{Body}
use Rattle.garde_check.specs.declared.mode.Command.{Command}
use Rattle.garde_check.specs.declared.mode.Command.TheVariants as command
use Rattle.garde_check.specs.declared.outcome.Outcome.{Outcome}
use Rattle.garde_check.specs.declared.user.User.{User}
use Rattle.garde_check.specs.Body.{tag_visits, address_visits, body_visits, content, tag_tree, address_tree, addresses_tree, body_tree}
use Rattle.garde_check.specs.Lines.{lines_of}
use Rattle.garde_check.specs.Request.{Spells}
use Rattle.garde_check.specs.Tasks.{Finds, IsOutput, Reports, BodyReports}
use Rattle.garde_check.specs.User.{user_visits, named_tree}
use Rattle.garde_check.proofs.Members.{the_only_body}
use Rattle.garde_check.specs.Users.{text_of, IsNamed, items_tree, line_tree}

-- the visits have no other tree than this
record HasOnly (visits : Visits) (t : Tree) : Type 0 where
  same : (s : Tree) → visits.trees s → s ≡ t

found_one : (fault : Option Fault) → HasOnly (found fault) (found_tree fault)
unfolding found only
found_one fault = record { same = λ s is. is }

and_one : {a b : Visits} {t u : Tree} → HasOnly a t → HasOnly b u → HasOnly (a and b) (t then u)
unfolding ◌and◌
and_one first second = record { same = λ s h. h.4 ∙ (λ i. first.same h.0 h.2 i then second.same h.1 h.3 i) }

under_one : (k : _) {a : Visits} {t : Tree} → HasOnly a t → HasOnly (visits_under k a) (under k t nothing)
unfolding visits_under
under_one k inside = record { same = λ s h. h.2 ∙ ap (λ x. under k x nothing) (inside.same h.0 h.1) }

numbered_one : {A B : Type 0} (each : A → Visits) (to : A → B) (tree : B → Tree) (i : ℕ) (xs : List A) (t : Tree)
    → AllByRecursion (λ x. HasOnly (each x) (tree (to x))) xs → TreesEach index_part (λ x. (each x).trees) (enumerate_from i xs) t → t ≡ items_tree tree i (map to xs)
numbered_one each to tree i [] t one is = is
numbered_one each to tree i (x ∷ xs) t one (a, b, (s, own, a_is), rest, is) =
    is ∙ ap (λ y. y then b) a_is ∙ ap (λ y. under (index_part i) y b) (one.0.same s own)
    ∙ ap (λ y. under (index_part i) (tree (to x)) y) (numbered_one each to tree (i + 1) xs b one.1 rest)

items_one : {A B : Type 0} (each : A → Visits) (to : A → B) (tree : B → Tree) (xs : List A) → AllByRecursion (λ x. HasOnly (each x) (tree (to x))) xs → HasOnly (items each xs) (items_tree tree 0 (map to xs))
unfolding items
items_one each to tree xs one = record { same = λ t is. numbered_one each to tree 0 xs t one is }

-- ---- users

named_line : (line : List ℕ) → (line ≡ [] → ⊥) → named_tree line ≡ line_tree line
named_line [] some = absurd (some refl)
named_line (b ∷ bs) some = refl

user_one : (user : User) → HasOnly (user_visits user) (named_tree (string_bytes user.username))
user_one user = under_one (key_part (words.codes "username")) (and_one (found_one _) (found_one _))

option_one : (user : Option User) → IsNamed user → HasOnly (optional user_visits user) (line_tree (text_of user))
unfolding optional
option_one None named = record { same = λ t is. is }
option_one (Some user) named = record { same = λ t is. (user_one user).same t is ∙ named_line (string_bytes user.username) named }

options_one : (users : List (Option User)) → AllByRecursion IsNamed users → AllByRecursion (λ user. HasOnly (optional user_visits user) (line_tree (text_of user))) users
options_one [] named = tt
options_one (user ∷ users) named = (option_one user named.0, options_one users named.1)

-- what is found of the users of lines is what is reported of these lines
pub lines_reported : (command : Command) (most : Option ℕ) (users : List (Option User)) (bytes output : List ℕ) (outcome : Outcome) → lines_of bytes ≡ map text_of users → AllByRecursion IsNamed users
    → Finds (items (λ user. optional user_visits user) users) command most outcome output → Reports command most bytes outcome output
lines_reported command most users bytes output outcome lines named (t, visited, is) =
    let one = items_one (λ user. optional user_visits user) text_of line_tree users (options_one users named) in
    subst (λ s. IsOutput command most s outcome output) (one.same t visited ∙ ap (items_tree line_tree 0) (sym lines)) is

-- ---- bodies

tags_one : (tags : List (String Global)) → AllByRecursion (λ tag. HasOnly (tag_visits tag) (tag_tree (string_bytes tag))) tags
tags_one [] = tt
tags_one (tag ∷ tags) = (and_one (found_one _) (found_one _), tags_one tags)

each_address : (es : List (String Global × Address)) (t : Tree) → TreesEach (λ name. key_part (string_bytes name)) (λ a. (address_visits a).trees) es t
    → t ≡ addresses_tree (map (λ e. (string_bytes e.0, string_bytes e.1.0)) es)
each_address [] t is = is
each_address (e ∷ es) t (a, b, (s, own, a_is), rest, is) =
    is ∙ ap (λ y. y then b) a_is ∙ ap (λ y. under (key_part (string_bytes e.0)) y b) ((found_one _).same s own)
    ∙ ap (λ y. under (key_part (string_bytes e.0)) (address_tree (string_bytes e.1.0)) y) (each_address es b rest)

addresses_one : (es : List (String Global × Address)) → HasOnly (entries (λ name. key_part (string_bytes name)) address_visits es) (addresses_tree (map (λ e. (string_bytes e.0, string_bytes e.1.0)) es))
unfolding entries
addresses_one es = record { same = each_address es }

fewer_one : (tags : List (String Global)) → HasOnly (words.is (words.items (words.at_most 5) tags)) (found_tree (words.items (words.at_most 5) (map string_bytes tags)))
fewer_one tags = rw (length-map tags string_bytes) (found_one _)

body_one : (body : Body) → HasOnly (body_visits body) (body_tree (content body))
body_one body =
    and_one (user_one body.user)
    (and_one (under_one (key_part (words.codes "age")) (and_one (found_one _) (found_one _)))
    (and_one (under_one (key_part (words.codes "tags")) (and_one (fewer_one body.tags.items) (items_one tag_visits string_bytes tag_tree body.tags.items (tags_one body.tags.items))))
    (under_one (key_part (words.codes "addresses")) (addresses_one body.addresses.entries))))

-- what is found of a body is what is reported of the bytes that spell it
pub body_reported : (most : Option ℕ) (body : Body) (bytes output : List ℕ) (outcome : Outcome) → Spells bytes (content body) → Finds (body_visits body) command.Body most outcome output → BodyReports most bytes outcome output
body_reported most body bytes output outcome spells (t, visited, is) =
    (content body, the_only_body bytes (content body) spells, subst (λ s. IsOutput command.Body most s outcome output) ((body_one body).same t visited) is)
