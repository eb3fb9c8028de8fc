-- Lists of so many items, each of its own form.
use Rattle.std.specs.Prelude.{ℕ, ◌-◌, ◌==◌, List, [], ◌∷◌, length, nat_lt, false, Option, Some, None, option_and_then, if◌then◌else◌}
use Rattle.json.specs.Json.{Json}
use Rattle.garde_report.specs.Part.{index_part}
use Rattle.garde.specs.Visits.{Visits, ◌and◌, under, when}
use Rattle.garde_tape.specs.Look.{kind_of}
use Rattle.garde_tape.specs.declared.found.Found.{Found}
use Rattle.garde_tape.specs.declared.found.Found.TheVariants.{Missing, Once}
use Rattle.garde_schema.specs.declared.fault.FormFault.TheVariants as faults
use Rattle.garde_schema.specs.declared.fault.Wanted.TheVariants as wanted
use Rattle.garde_schema.specs.Forms.{FormTexts, formed, refused}
use Rattle.garde_schema.specs.Lists.{list_of}
use Rattle.garde_schema.specs.Members.{member_visits, once}
use Rattle.garde_schema.specs.Spelling.{Members, Spelling}

-- the item at an index
unfoldable pub item_at : ℕ → List Json → Found
item_at n [] = Missing
item_at n (j ∷ js) = if n == 0 then Once j else item_at (n - 1) js

-- the same where there is a list
abbrev pub item_in : ℕ → Option (List Json) → Found
item_in n None = Missing
item_in n (Some js) = item_at n js

-- a fault under the index behind those of so many items, where there are more
abbrev pub beyond : ℕ → FormTexts → ℕ → Visits
beyond count texts there = when (nat_lt count there) (under (index_part count) (refused (texts faults.Unknown)))

-- What JSON spells of an item at an index, and of a list of so many items.
abbrev pub nth : {A : Type 0} → ℕ → Spelling A → Members A
nth index one = record {
  value = λ j. option_and_then (λ v. one.value v) (once (item_in index (list_of j)));
  visits = λ texts j. under (index_part index) (member_visits texts (λ v. one.visits texts v) (item_in index (list_of j)));
  names = λ _. false;
}

abbrev pub in_order : {A : Type 0} → ℕ → Members A → Spelling A
in_order count items = record {
  value = λ j. option_and_then (λ _. items.value j) (list_of j);
  visits = λ texts j. formed (texts (faults.Wrong wanted.List (kind_of j)))
      (λ js. items.visits texts j and beyond count texts (length js)) (list_of j);
}
