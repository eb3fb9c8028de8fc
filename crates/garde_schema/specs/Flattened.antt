-- The members of one type among those of another one, and what JSON spells of them.
use Rattle.std.specs.Prelude.{ℕ, List, [], ◌∷◌, Bool, true, false, cond, Option, option_map}
use Rattle.json.specs.Json.{Json}
use Rattle.garde.specs.Visits.{◌and◌}
use Rattle.garde_schema.specs.Forms.{both}
use Rattle.garde_schema.specs.Lists.{all_values}
use Rattle.garde_schema.specs.Maps.{each_entry, entry_value, members_first}
use Rattle.garde_schema.specs.Members.{members_in}
use Rattle.garde_schema.specs.Nulls.{nullable_value, nullable_visits}
use Rattle.garde_schema.specs.Spelling.{Members, Spelling}

-- the members whose names are not asked for, in their order
abbrev pub others : (List ℕ → Bool) → List (List ℕ × Json) → List (List ℕ × Json)
others names [] = []
others names (m ∷ ms) = cond (names m.0) (others names ms) (m ∷ others names ms)

-- whether no member has a name that is asked for
abbrev pub has_none : (List ℕ → Bool) → List (List ℕ × Json) → Bool
has_none names [] = true
has_none names (m ∷ ms) = cond (names m.0) false (has_none names ms)

-- members of which a value is made
abbrev pub made_of : {A B : Type 0} → (A → B) → Members A → Members B
made_of make one = record {
  value = λ j. option_map (λ parts. make parts) (one.value j);
  visits = λ texts j. one.visits texts j;
  names = λ found. one.names found;
}

-- members all of which may be missing together
abbrev pub if_any : {A : Type 0} → Members A → Members (Option A)
if_any one = record {
  value = λ j. nullable_value (one.value j) (has_none (λ found. one.names found) (members_in j));
  visits = λ texts j. nullable_visits (one.visits texts j) (has_none (λ found. one.names found) (members_in j));
  names = λ found. one.names found;
}

-- members, and then those of any other name
abbrev pub with_rest : {A B : Type 0} → Members A → Spelling B → Members (A × List (List ℕ × B))
with_rest one item = record {
  value = λ j. both (one.value j)
      (all_values (entry_value (λ v. item.value v)) (members_first (others (λ found. one.names found) (members_in j))));
  visits = λ texts j. one.visits texts j
      and each_entry texts (λ v. item.visits texts v) (members_first (others (λ found. one.names found) (members_in j)));
  names = λ found. true;
}
