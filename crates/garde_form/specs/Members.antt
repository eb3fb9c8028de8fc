-- The members of a web form that stand in a list so far.
use Rattle.std.specs.Prelude.{◌≡◌, ℕ, List, [], ◌∷◌, ◌++◌, map, cond, bytes_eq, Option, Some, None}
use Rattle.std.specs.Borrow.{Bor}
use Rattle.json.specs.Json.{Members, no_members, member}
use Rattle.garde_tape.specs.Reading.{member_list}
use Rattle.garde_tape.specs.Texts.{field_list}
use Rattle.garde_tape.specs.declared.field.FieldValue.{FieldValue}
use Rattle.garde_form.specs.declared.lists.NamedTexts.{NamedTexts}
use Rattle.garde_form.specs.WebForm.{is_listed, texts_of}

-- a name and its texts
abbrev pub named : NamedTexts → List ℕ × List (List ℕ)
named list = (list.name.now, map (λ s. s.now) list.texts.items)

-- for each of these names the texts of its fields
abbrev pub lists_of : List (Bor (List ℕ)) → List (List ℕ × List ℕ) → List (List ℕ × List (List ℕ))
lists_of names fields = map (λ name. (name.now, texts_of name.now fields)) names

-- the texts under the first of these names that is this one
abbrev pub list_under : List ℕ → List (List ℕ × List (List ℕ)) → Option (List (List ℕ))
list_under name [] = None
list_under name (l ∷ ls) = cond (bytes_eq name l.0) (Some l.1) (list_under name ls)

-- the members of none of these names
abbrev pub unseen : List (Bor (List ℕ)) → Members → Members
unseen seen no_members = no_members
unseen seen (member k j ms) = cond (is_listed seen k) (unseen seen ms) (member k j (unseen seen ms))

-- the members so far and those that are left behind a field, which is before the others, are those from before it
pub record IsFieldAdded (before : Members → Members) (seen_before seen_after : List (Bor (List ℕ))) (old new : List (Bor (List ℕ) × FieldValue)) : Type 0 where
  pub members : (others : Members) → field_list new ++ member_list (unseen seen_after others) ≡ field_list old ++ member_list (unseen seen_before (before others))
