-- The members of the fields of a form, where some names are lists.
use Rattle.std.proofs.Common.{◌≡◌, ℕ, ◌+◌, ◌<◌, ◌≤◌, length, drop, List, [], ◌∷◌, ◌++◌, map, Bool, true, false, cond, Some, None, refl, sym, ap, ◌∙◌}
use Rattle.std.specs.Prelude.{◌||◌, bytes_eq, slice_index_or}
use Rattle.std.specs.Borrow.{Bor}
use Rattle.std.proofs.lemmas.List.{append_assoc, append-nil, map-append, at_drop_more, at_drop_all}
use Rattle.std.specs.Cow.{cow_str_bytes}
use Rattle.std.specs.declared.borrow.CowStr.{CowStr}
use Rattle.std.specs.Cmp.Lexicographic.{same_text}
use Rattle.json.specs.Json.{Json, string, array, object, item, Members, no_members, member}
use Rattle.garde_tape.specs.Reading.{member_list}
use Rattle.garde_tape.specs.Texts.{field_json, field_list, field_members, text_items}
use Rattle.garde_tape.specs.declared.field.FieldValue.{FieldValue}
use Rattle.garde_form.specs.Members.{IsFieldAdded, list_under, lists_of, unseen}
use Rattle.garde_form.specs.WebForm.{field_texts, first_member, first_of_lists, is_listed, items_of_texts, members_of_fields, texts_of, value_of, without}

-- of no names these are all
pub all_unseen : (ms : Members) → unseen [] ms ≡ ms
all_unseen no_members = refl
all_unseen (member k j ms) = ap (member k j) (all_unseen ms)

-- one name more is seen
or_false : (b : Bool) → (b || false) ≡ b
or_false true = refl
or_false false = refl

is_listed-snoc : (seen : List (Bor (List ℕ))) (name : Bor (List ℕ)) (k : List ℕ) → is_listed (seen ++ name ∷ []) k ≡ (is_listed seen k || bytes_eq k name.now)
is_listed-snoc [] name k = or_false (bytes_eq k name.now)
is_listed-snoc (n ∷ seen) name k = ap (λ b. bytes_eq k n.now || b) (is_listed-snoc seen name k) ∙ or_assoc (bytes_eq k n.now) (is_listed seen k) (bytes_eq k name.now)
  where
    or_assoc : (a b c : Bool) → (a || (b || c)) ≡ ((a || b) || c)
    or_assoc true b c = refl
    or_assoc false b c = refl

-- a choice between what is seen and what is not, made in two steps
two_steps : (a b : Bool) (k : List ℕ) (j : Json) (u : Members) → cond (a || b) u (member k j u) ≡ cond b u (cond a u (member k j u))
two_steps true true k j u = refl
two_steps true false k j u = refl
two_steps false true k j u = refl
two_steps false false k j u = refl

unseen-without : (seen : List (Bor (List ℕ))) (name : Bor (List ℕ)) (ms : Members) → unseen (seen ++ name ∷ []) ms ≡ unseen seen (without name.now ms)
unseen-without seen name no_members = refl
unseen-without seen name (member k j ms) =
    ap (λ b. cond b (unseen (seen ++ name ∷ []) ms) (member k j (unseen (seen ++ name ∷ []) ms))) (is_listed-snoc seen name k)
    ∙ ap (λ (u : Members). cond (is_listed seen k || bytes_eq k name.now) u (member k j u)) (unseen-without seen name ms)
    ∙ two_steps (is_listed seen k) (bytes_eq k name.now) k j (unseen seen (without name.now ms))
    ∙ pushed (bytes_eq k name.now)
  where
    pushed : (b : Bool) → cond b (unseen seen (without name.now ms)) (cond (is_listed seen k) (unseen seen (without name.now ms)) (member k j (unseen seen (without name.now ms)))) ≡ unseen seen (cond b (without name.now ms) (member k j (without name.now ms)))
    pushed true = refl
    pushed false = refl

-- of what is seen nothing is left, with its name or without it
seen-without : (seen : List (Bor (List ℕ))) (name : List ℕ) (ms : Members) → is_listed seen name ≡ true → unseen seen (without name ms) ≡ unseen seen ms
seen-without seen name no_members is = refl
seen-without seen name (member k j ms) is = here (seen-without seen name ms is) (bytes_eq k name) refl
  where
    here : unseen seen (without name ms) ≡ unseen seen ms → (b : Bool) → bytes_eq k name ≡ b → unseen seen (cond b (without name ms) (member k j (without name ms))) ≡ cond (is_listed seen k) (unseen seen ms) (member k j (unseen seen ms))
    here rest true same = rest ∙ sym (ap (λ b. cond b (unseen seen ms) (member k j (unseen seen ms))) (ap (is_listed seen) (same_text k name (sym same)) ∙ is))
    here rest false same = ap (λ (u : Members). cond (is_listed seen k) u (member k j u)) rest

-- a field whose name is seen leaves what is left behind it
pub past_seen : (lists seen : List (Bor (List ℕ))) (k : List ℕ) (j : Json) (others : Members) → is_listed seen k ≡ true → unseen seen others ≡ unseen seen (first_member lists k j others)
past_seen lists seen k j others is = sym (behind ∙ either (is_listed lists k))
  where
    behind : unseen seen (first_member lists k j others) ≡ unseen seen (cond (is_listed lists k) (without k others) others)
    behind = ap (λ b. cond b (unseen seen (cond (is_listed lists k) (without k others) others)) (member k j (unseen seen (cond (is_listed lists k) (without k others) others)))) is

    either : (b : Bool) → unseen seen (cond b (without k others) others) ≡ unseen seen others
    either true = seen-without seen k others is
    either false = refl

-- a field of a listed name that is not seen leaves its member, and then what is left once the name is seen
pub at_first : (lists seen : List (Bor (List ℕ))) (all : List (List ℕ × List ℕ)) (name : Bor (List ℕ)) (text : List ℕ) (others : Members) → is_listed seen name.now ≡ false → is_listed lists name.now ≡ true
    → unseen seen (first_member lists name.now (value_of lists all name.now text) others) ≡ member name.now (array (items_of_texts (texts_of name.now all))) (unseen (seen ++ name ∷ []) others)
at_first lists seen all name text others new is =
    ap (λ b. unseen seen (member name.now (cond b (array (items_of_texts (texts_of name.now all))) (string text)) (cond b (without name.now others) others))) is
    ∙ ap (λ b. cond b (unseen seen (without name.now others)) (member name.now (array (items_of_texts (texts_of name.now all))) (unseen seen (without name.now others)))) new
    ∙ ap (member name.now (array (items_of_texts (texts_of name.now all)))) (sym (unseen-without seen name others))

-- a field of another name that is not seen leaves its text, and then what is left
pub at_field : (lists seen : List (Bor (List ℕ))) (all : List (List ℕ × List ℕ)) (k text : List ℕ) (others : Members) → is_listed seen k ≡ false → is_listed lists k ≡ false
    → unseen seen (first_member lists k (value_of lists all k text) others) ≡ member k (string text) (unseen seen others)
at_field lists seen all k text others new is =
    ap (λ b. unseen seen (member k (cond b (array (items_of_texts (texts_of k all))) (string text)) (cond b (without k others) others))) is
    ∙ ap (λ b. cond b (unseen seen others) (member k (string text) (unseen seen others))) new

-- one member more, of what is left
pub one_member : (old new : List (Bor (List ℕ) × FieldValue)) (name : Bor (List ℕ)) (value : FieldValue) (left whole : Members) → new ≡ old ++ (name, value) ∷ [] → whole ≡ member name.now (field_json value) left → field_list new ++ member_list left ≡ field_list old ++ member_list whole
one_member old new name value left whole one is =
    ap (λ fs. field_list fs ++ member_list left) one
    ∙ ap (λ l. l ++ member_list left) (map-append (λ p. (p.0.now, field_json p.1)) old ((name, value) ∷ []))
    ∙ append_assoc (field_list old) ((name.now, field_json value) ∷ []) (member_list left)
    ∙ ap (λ ms. field_list old ++ member_list ms) (sym is)

-- the items of texts
pub these_items : (ss : List (Bor (List ℕ))) → text_items ss ≡ items_of_texts (map (λ s. s.now) ss)
these_items [] = refl
these_items (s ∷ ss) = ap (item (string s.now)) (these_items ss)

-- what stands under a name: its texts, where it is listed
pub under_listed : (name : List ℕ) (names : List (Bor (List ℕ))) (fields : List (List ℕ × List ℕ)) → list_under name (lists_of names fields) ≡ cond (is_listed names name) (Some (texts_of name fields)) None
under_listed name [] fields = refl
under_listed name (n ∷ ns) fields = either (under_listed name ns fields) (bytes_eq name n.now) refl
  where
    either : list_under name (lists_of ns fields) ≡ cond (is_listed ns name) (Some (texts_of name fields)) None → (b : Bool) → bytes_eq name n.now ≡ b → cond b (Some (texts_of n.now fields)) (list_under name (lists_of ns fields)) ≡ cond (b || is_listed ns name) (Some (texts_of name fields)) None
    either rest true same = ap (λ k. Some (texts_of k fields)) (sym (same_text name n.now (sym same)))
    either rest false same = rest

pub is_there : (b : Bool) (x y : List (List ℕ)) → Some x ≡ cond b (Some y) None → (b ≡ true) × (x ≡ y)
is_there true x y is = let same : x ≡ y = cc in (refl, same)
is_there false x y is = cc

pub is_not_there : (b : Bool) (y : List (List ℕ)) → None ≡ cond b (Some y) None → b ≡ false
is_not_there true y is = cc
is_not_there false y is = refl

-- an object of these members
abbrev listed : List (List ℕ × Json) → Members
listed [] = no_members
listed (m ∷ ms) = member m.0 m.1 (listed ms)

listed_fields : (fs : List (Bor (List ℕ) × FieldValue)) → field_members fs ≡ listed (field_list fs)
listed_fields [] = refl
listed_fields (f ∷ fs) = ap (member f.0.now (field_json f.1)) (listed_fields fs)

listed_members : (ms : Members) → listed (member_list ms) ≡ ms
listed_members no_members = refl
listed_members (member k j ms) = ap (member k j) (listed_members ms)

-- the members are those of the form, where none is left
pub all_members : (fs : List (Bor (List ℕ) × FieldValue)) (left whole : Members) → field_list fs ++ member_list left ≡ member_list whole → left ≡ no_members → object (field_members fs) ≡ object whole
all_members fs left whole so none =
    ap object (listed_fields fs
    ∙ ap listed (sym (append-nil (field_list fs)) ∙ ap (λ ms. field_list fs ++ member_list ms) (sym none) ∙ so)
    ∙ listed_members whole)

module _ {Z : Type 0} where
  -- the members that are left behind so many fields
  abbrev pub left_members : List (Bor (List ℕ)) → List (Bor (List ℕ)) → List (CowStr Z × CowStr Z) → List (CowStr Z × CowStr Z) → Members
  left_members names seen fields left = unseen seen (first_of_lists names (members_of_fields names (field_texts fields) (field_texts left)))

  -- the next field is added
  pub next_field : (names seen more : List (Bor (List ℕ))) (fields : List (CowStr Z × CowStr Z)) (i : ℕ) (d : CowStr Z × CowStr Z) (k t : List ℕ) (old new : List (Bor (List ℕ) × FieldValue)) (whole : List (List ℕ × Json)) → i < length fields
      → k ≡ cow_str_bytes (slice_index_or fields i d).0 → t ≡ cow_str_bytes (slice_index_or fields i d).1
      → IsFieldAdded (first_member names k (value_of names (field_texts fields) k t)) seen more old new
      → field_list old ++ member_list (left_members names seen fields (drop i fields)) ≡ whole → field_list new ++ member_list (left_members names more fields (drop (i + 1) fields)) ≡ whole
  next_field names seen more fields i d k t old new whole within named texted added so =
      let others = first_of_lists names (members_of_fields names (field_texts fields) (field_texts (drop (i + 1) fields))) in
      added.members others
      ∙ ap (λ k. field_list old ++ member_list (unseen seen (first_member names k (value_of names (field_texts fields) k t) others))) named
      ∙ ap (λ t. field_list old ++ member_list (unseen seen (first_member names (cow_str_bytes (slice_index_or fields i d).0) (value_of names (field_texts fields) (cow_str_bytes (slice_index_or fields i d).0) t) others))) texted
      ∙ ap (λ left. field_list old ++ member_list (left_members names seen fields left)) (sym (at_drop_more (λ l. l) fields i d within))
      ∙ so

  -- none is left
  pub none_left : (names seen : List (Bor (List ℕ))) (fields : List (CowStr Z × CowStr Z)) (i : ℕ) → length fields ≤ i → left_members names seen fields (drop i fields) ≡ no_members
  none_left names seen fields i past = at_drop_all (λ left. left_members names seen fields left) fields i past
