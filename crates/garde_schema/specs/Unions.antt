-- What JSON spells of a union: an enum whose variants have fields. Each word is that of a form.
use Prim.Native.String.{String as Literal}
use Rattle.std.specs.Prelude.{ℕ, List, Bool, false, ◌||◌, ◌&&◌, not, is_some, Option, Some, None, option_map, option_and_then, unwrap_or, codes, if◌then◌else◌}
use Rattle.std.specs.Str.{bytes_eq}
use Rattle.json.specs.Json.{Json}
use Rattle.json.specs.Find.{as_object, as_str, is_null}
use Rattle.garde.specs.Fields.{key_part}
use Rattle.garde.specs.Visits.{Visits, none, ◌and◌}
use Rattle.garde_tape.specs.Look.{find_answer, kind_of}
use Rattle.garde_tape.specs.declared.kind.Kind.TheVariants as kinds
use Rattle.garde_schema.specs.declared.either.Either.{Either}
use Rattle.garde_schema.specs.declared.fault.FormFault.TheVariants as faults
use Rattle.garde_schema.specs.declared.fault.Wanted.TheVariants as wanted
use Rattle.garde_schema.specs.Choice.{has, has_with, is_kind, is_whole_number, test_side}
use Rattle.garde_schema.specs.Forms.{FormTexts, formed, where_true}
use Rattle.garde_schema.specs.Members.{members_in, unknown}
use Rattle.garde_schema.specs.OneMember.{only_fault, only_name}
use Rattle.garde_schema.specs.Variants.{choice_or, chosen_value, chosen_visits, either_names, either_value, either_visits, first_choice, tag_choice, text_side}
use Rattle.garde_schema.specs.Spelling.{Members, Spelling, member, named}
use Rattle.garde_schema.specs.Whole.{unsigned_value}

-- Variants, one of which a name chooses: the choice by a name; and of a choice the value that an object spells, what a visit of the
-- object finds, where the member of this name chose, and whether a member of this name is among those of the variant.
pub record Variants (C A : Type 0) : Type 1 where
  pub chosen : List ℕ → Option C
  pub value : C → Json → Option A
  pub visits : C → List ℕ → FormTexts → Json → Visits
  pub names : C → List ℕ → Bool

-- a variant of this name, with these members
abbrev pub variant : {A : Type 0} → Literal → Members A → Variants (Unit {0}) A
variant name members = record {
  chosen = λ found. if bytes_eq found (codes name) then Some tt else None;
  value = λ _ j. members.value j;
  visits = λ _ _ texts j. members.visits texts j;
  names = λ _ found. members.names found;
}

-- a variant whose only member has its name
abbrev pub variant_member : {A : Type 0} → Literal → Spelling A → Variants (Unit {0}) A
variant_member name one = variant name (member name one)

-- the first of two variants that has the name
abbrev pub either_of : {A B C D : Type 0} → Variants C A → Variants D B → Variants (Either C D) (Either A B)
either_of one other = record {
  chosen = λ found. first_choice (one.chosen found) (other.chosen found);
  value = λ choice j. either_value (λ c. one.value c j) (λ d. other.value d j) choice;
  visits = λ choice tag texts j. either_visits (λ c. one.visits c tag texts j) (λ d. other.visits d tag texts j) choice;
  names = λ choice found. either_names (λ c. one.names c found) (λ d. other.names d found) choice;
}

-- the members of the chosen variant, the member by which it was chosen, and no other
abbrev pub closed_variants : {A C : Type 0} → Variants C A → Variants C A
closed_variants variants = record {
  chosen = λ found. variants.chosen found;
  value = λ choice j. variants.value choice j;
  visits = λ choice tag texts j. variants.visits choice tag texts j
      and unknown (λ found. variants.names choice found || bytes_eq found tag) texts (members_in j);
  names = λ choice found. variants.names choice found;
}

-- nothing is asked of the tag of a variant without members, but that it is there
abbrev pub anything : Spelling (Unit {0})
anything = record { value = λ _. Some tt; visits = λ _ _. none }

-- an object whose member of this name, the tag, chooses the variant
abbrev pub tagged : {A C : Type 0} → Literal → Variants C A → Spelling A
tagged name variants = record {
  value = λ j. option_and_then (λ _. chosen_value (λ c. variants.value c j)
      (tag_choice (λ found. variants.chosen found) (find_answer (codes name) j))) (as_object j);
  visits = λ texts j. formed (texts (faults.Wrong wanted.Object (kind_of j)))
      (λ _. chosen_visits (key_part (codes name)) texts (λ c. variants.visits c (codes name) texts j)
      (tag_choice (λ found. variants.chosen found) (find_answer (codes name) j))) (as_object j);
}

-- an object with one member, whose name chooses the variant
abbrev pub one_member : {A C : Type 0} → Variants C A → Spelling A
one_member variants = record {
  value = λ j. option_and_then (λ name. chosen_value (λ c. variants.value c j)
      (choice_or faults.Unknown (variants.chosen name))) (only_name j);
  visits = λ texts j. formed (texts (only_fault j))
      (λ name. chosen_visits (key_part name) texts (λ c. variants.visits c name texts j)
      (choice_or faults.Unknown (variants.chosen name))) (only_name j);
}

-- the variant of every other name, with these members
abbrev pub otherwise : {A : Type 0} → Members A → Variants (Unit {0}) A
otherwise members = record {
  chosen = λ _. Some tt;
  value = λ _ j. members.value j;
  visits = λ _ _ texts j. members.visits texts j;
  names = λ _ found. members.names found;
}

-- the first of two variants that has the name, whose values have the same type: one variant under two names
abbrev pub same_of : {A C D : Type 0} → Variants C A → Variants D A → Variants (Either C D) A
same_of one other = record {
  chosen = λ found. first_choice (one.chosen found) (other.chosen found);
  value = λ choice j. either_names (λ c. one.value c j) (λ d. other.value d j) choice;
  visits = λ choice tag texts j. either_visits (λ c. one.visits c tag texts j) (λ d. other.visits d tag texts j) choice;
  names = λ choice found. either_names (λ c. one.names c found) (λ d. other.names d found) choice;
}

-- one of some names, each with the value that it stands for, and this value for every other text
abbrev pub a_name_or : {A : Type 0} → List (Literal × A) → A → Spelling A
a_name_or rows other = record {
  value = λ j. option_map (λ text. unwrap_or (named rows text) other) (as_str j);
  visits = λ texts j. formed (texts (faults.Wrong wanted.Text (kind_of j))) (λ _. none)
      (option_map (λ text. unwrap_or (named rows text) other) (as_str j));
}

-- a text of the first form, or any other value, of the second
abbrev pub text_or : {A B : Type 0} → Spelling A → Spelling B → Spelling (Either A B)
text_or one other = record {
  value = λ j. either_value (λ _. one.value j) (λ _. other.value j) (text_side (as_str j));
  visits = λ texts j. either_visits (λ _. one.visits texts j) (λ _. other.visits texts j) (text_side (as_str j));
}

-- a value of the first form where this holds of it, and else one of the second
abbrev pub choice : {A B : Type 0} → (Json → Bool) → Spelling A → Spelling B → Spelling (Either A B)
choice test one other = record {
  value = λ j. either_value (λ _. one.value j) (λ _. other.value j) (test_side (test j));
  visits = λ texts j. either_visits (λ _. one.visits texts j) (λ _. other.visits texts j) (test_side (test j));
}

-- What is asked of a value to choose: its kind; what number it is; whether the form of names has it; and of an object, what members it
-- has.
abbrev pub is_text : Json → Bool
is_text j = is_kind kinds.Text j

abbrev pub is_number : Json → Bool
is_number j = is_kind kinds.Number j

abbrev pub is_boolean : Json → Bool
is_boolean j = is_kind kinds.Boolean j

abbrev pub is_nothing : Json → Bool
is_nothing j = is_kind kinds.Null j

abbrev pub is_list : Json → Bool
is_list j = is_kind kinds.List j

abbrev pub is_object : Json → Bool
is_object j = is_kind kinds.Object j

abbrev pub is_whole : Json → Bool
is_whole j = is_whole_number j

abbrev pub is_unsigned : Json → Bool
is_unsigned j = is_some (unsigned_value j)

abbrev pub is_among : {A : Type 0} → Spelling A → Json → Bool
is_among names j = is_some (names.value j)

abbrev pub has_member : Literal → Json → Bool
has_member name j = has (codes name) j

abbrev pub has_member_with : Literal → (Json → Bool) → Json → Bool
has_member_with name test j = has_with (codes name) test j

-- both hold; one of them or both; it does not hold
abbrev pub both_hold : (Json → Bool) → (Json → Bool) → Json → Bool
both_hold one other j = one j && other j

abbrev pub any_holds : (Json → Bool) → (Json → Bool) → Json → Bool
any_holds one other j = one j || other j

abbrev pub fails : (Json → Bool) → Json → Bool
fails test j = not (test j)
