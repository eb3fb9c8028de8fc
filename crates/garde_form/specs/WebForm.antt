-- The JSON object that the fields of a web form are.
use Rattle.std.specs.Prelude.{ℕ, List, [], ◌∷◌, map, cond, Bool, false, ◌||◌, bytes_eq}
use Rattle.std.specs.Borrow.{Bor}
use Rattle.std.specs.Cow.{cow_str_bytes}
use Rattle.std.specs.Str.Lossy.{utf8_lossy}
use Rattle.std.specs.declared.borrow.CowStr.{CowStr}
use Rattle.form_urlencoded.specs.Form.{decode, raw_pairs}
use Rattle.json.specs.Json.{Json, string, array, object, Items, no_items, item, Members, no_members, member}

-- the text that a name or a value stands for: `+` is a space, escapes are decoded, and what is no UTF-8 becomes U+FFFD
abbrev pub text_of : List ℕ → List ℕ
text_of bytes = utf8_lossy (decode bytes)

-- the name and the text of each field of the body of a request, in their order
abbrev pub fields_in : List ℕ → List (List ℕ × List ℕ)
fields_in body = map (λ p. (text_of p.0, text_of p.1)) (raw_pairs body)

-- the name and the text of each of these fields
abbrev pub field_texts : {A : Type 0} → List (CowStr A × CowStr A) → List (List ℕ × List ℕ)
field_texts fields = map (λ f. (cow_str_bytes f.0, cow_str_bytes f.1)) fields

-- whether one of these names is the text
abbrev pub is_listed : List (Bor (List ℕ)) → List ℕ → Bool
is_listed [] text = false
is_listed (name ∷ names) text = bytes_eq text name.now || is_listed names text

-- the texts of the fields of this name, in their order
abbrev pub texts_of : List ℕ → List (List ℕ × List ℕ) → List (List ℕ)
texts_of name [] = []
texts_of name (f ∷ fs) = cond (bytes_eq f.0 name) (f.1 ∷ texts_of name fs) (texts_of name fs)

-- an item for each text
abbrev pub items_of_texts : List (List ℕ) → Items
items_of_texts [] = no_items
items_of_texts (s ∷ ss) = item (string s) (items_of_texts ss)

-- the value of a field of this name and text: where the name is listed, the list of all texts of the name, else the text
abbrev pub value_of : List (Bor (List ℕ)) → List (List ℕ × List ℕ) → List ℕ → List ℕ → Json
value_of lists all name text = cond (is_listed lists name) (array (items_of_texts (texts_of name all))) (string text)

-- a member for each field
abbrev pub members_of_fields : List (Bor (List ℕ)) → List (List ℕ × List ℕ) → List (List ℕ × List ℕ) → Members
members_of_fields lists all [] = no_members
members_of_fields lists all (f ∷ fs) = member f.0 (value_of lists all f.0 f.1) (members_of_fields lists all fs)

-- the members of another name
abbrev pub without : List ℕ → Members → Members
without name no_members = no_members
without name (member k j ms) = cond (bytes_eq k name) (without name ms) (member k j (without name ms))

-- this member before others, of which those of its name go where the name is listed
abbrev pub first_member : List (Bor (List ℕ)) → List ℕ → Json → Members → Members
first_member lists k j ms = member k j (cond (is_listed lists k) (without k ms) ms)

-- of the members of a listed name the first alone
abbrev pub first_of_lists : List (Bor (List ℕ)) → Members → Members
first_of_lists lists no_members = no_members
first_of_lists lists (member k j ms) = first_member lists k j (first_of_lists lists ms)

-- the object of these fields, where those of a listed name are one member, at the place of the first
abbrev pub form_json : List (Bor (List ℕ)) → List (List ℕ × List ℕ) → Json
form_json lists fields = object (first_of_lists lists (members_of_fields lists fields fields))
