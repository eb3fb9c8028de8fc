-- The members of an object under any names, and their values.
use Rattle.std.specs.Prelude.{ℕ, List, [], ◌∷◌, map, Bool, true, false, cond, ◌||◌, Option, Some, None, option_map, option_and_then}
use Rattle.std.specs.BTreeSet.{BTreeSet, contains_by}
use Rattle.std.specs.Borrow.{Bor}
use Rattle.std.specs.List.{list_any}
use Rattle.std.specs.Cmp.Lexicographic.{slice_cmp}
use Rattle.std.specs.Ordering.{nat_cmp}
use Rattle.std.specs.Str.{bytes_eq}
use Rattle.json.specs.Json.{Json}
use Rattle.json.specs.Find.{as_object}
use Rattle.garde_report.specs.Part.{key_part}
use Rattle.garde_tape.specs.Reading.{member_list}
use Rattle.garde.specs.Visits.{Visits, entries, may_allocate}
use Rattle.garde_schema.specs.declared.fault.FormFault.TheVariants as faults
use Rattle.garde_schema.specs.declared.names.Names.{Names}
use Rattle.garde_schema.specs.Forms.{FormTexts, formed}

-- whether a list of names has this one
abbrev pub is_among : List (Bor (List ℕ)) → List ℕ → Bool
is_among names name = list_any (λ n. bytes_eq n.now name) names

-- whether a set of names has this one
abbrev pub is_in_set : BTreeSet (Bor (List ℕ)) → List ℕ → Bool
is_in_set names name = contains_by (λ k. slice_cmp nat_cmp name k.now) names

-- whether a name came before
abbrev pub has_name : Names → List ℕ → Bool
has_name names name = is_among names.few.items name || is_in_set names.others name

-- the names before, and this one
abbrev pub with_name : List ℕ → (List ℕ → Bool) → List ℕ → Bool
with_name name before other = cond (bytes_eq name other) true (before other)

-- the value of a member whose name is new
abbrev pub when_new : Bool → Json → Option Json
when_new came j = cond came None (Some j)

-- the members in their order, each with its value, or with none where its name came before
abbrev pub first_of_names : (List ℕ → Bool) → List (List ℕ × Json) → List (List ℕ × Option Json)
first_of_names came [] = []
first_of_names came (m ∷ ms) = (m.0, when_new (came m.0) m.1) ∷ first_of_names (with_name m.0 came) ms

-- the members of an object
abbrev pub members_first : List (List ℕ × Json) → List (List ℕ × Option Json)
members_first ms = first_of_names (λ name. false) ms

abbrev pub map_of : Json → Option (List (List ℕ × Json))
map_of j = option_map member_list (as_object j)

-- what is asked of each value, under its name: a value that is read is kept in memory, and so is its name
abbrev pub each_entry : FormTexts → (Json → Visits) → List (List ℕ × Option Json) → Visits
each_entry texts each es = entries (λ name. key_part name) (λ v. may_allocate (formed (texts faults.Repeated) each v)) es

-- the name with the value of the member
abbrev pub entry_value : {A : Type 0} → (Json → Option A) → List ℕ × Option Json → Option (List ℕ × A)
entry_value value e = option_map (λ v. (e.0, v)) (option_and_then value e.1)

-- the names of the members
abbrev pub names_of : {A : Type 0} → List (List ℕ × A) → List (List ℕ)
names_of es = map (λ e. e.0) es

-- what is asked of each name, under itself
abbrev pub each_key : (List ℕ → Visits) → List (List ℕ) → Visits
each_key asks names = entries (λ name. key_part name) asks (map (λ name. (name, name)) names)
