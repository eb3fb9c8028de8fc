-- The variants of a union, and how one is chosen.
use Rattle.std.specs.Prelude.{ℕ, List, [], ◌∷◌, Option, Some, None, Result, Ok, Err, option_map}
use Rattle.json.specs.Json.{Json}
use Rattle.json.specs.Find.{as_str}
use Rattle.garde_report.specs.Part.{Part, key_part}
use Rattle.garde_tape.specs.Look.{kind_of}
use Rattle.garde_tape.specs.declared.found.Found.{Found}
use Rattle.garde_tape.specs.declared.found.Found.TheVariants.{Missing, Once, Repeated}
use Rattle.garde.specs.Visits.{Visits, under}
use Rattle.garde_schema.specs.declared.either.Either.{Either}
use Rattle.garde_schema.specs.declared.either.Either.TheVariants.{Left, Right}
use Rattle.garde_schema.specs.declared.fault.FormFault.{FormFault}
use Rattle.garde_schema.specs.declared.fault.FormFault.TheVariants as faults
use Rattle.garde_schema.specs.declared.fault.Wanted.TheVariants as wanted
use Rattle.garde_schema.specs.Forms.{FormTexts, refused}

-- the choice, or what is wrong where nothing is chosen
abbrev pub choice_or : {C : Type 0} → FormFault → Option C → Result C FormFault
choice_or fault (Some c) = Ok c
choice_or fault None = Err fault

-- the choice by the text of a value
abbrev pub choice_by : {C : Type 0} → (List ℕ → Option C) → Json → Option (List ℕ) → Result C FormFault
choice_by choose v (Some text) = choice_or faults.NotOneOf (choose text)
choice_by choose v None = Err (faults.Wrong wanted.Text (kind_of v))

-- the choice by what was found of the tag
abbrev pub tag_choice : {C : Type 0} → (List ℕ → Option C) → Found → Result C FormFault
tag_choice choose Missing = Err faults.Missing
tag_choice choose (Once v) = choice_by choose v (as_str v)
tag_choice choose Repeated = Err faults.Repeated

-- what is asked of the chosen; what is wrong with the choice is a fault under this name
abbrev pub chosen_visits : {C : Type 0} → Part → FormTexts → (C → Visits) → Result C FormFault → Visits
chosen_visits name texts each (Ok c) = each c
chosen_visits name texts each (Err fault) = under name (refused (texts fault))

-- the value of the chosen
abbrev pub chosen_value : {A C : Type 0} → (C → Option A) → Result C FormFault → Option A
chosen_value value (Ok c) = value c
chosen_value value (Err fault) = None

-- the first choice, where there is one, and else the second
abbrev pub first_choice : {A B : Type 0} → Option A → Option B → Option (Either A B)
first_choice (Some a) b = Some (Left a)
first_choice None b = option_map (λ c. Right c) b

-- one of these, by the choice
abbrev pub either_visits : {A B : Type 0} → (A → Visits) → (B → Visits) → Either A B → Visits
either_visits one other (Left a) = one a
either_visits one other (Right b) = other b

abbrev pub either_value : {A B X Y : Type 0} → (A → Option X) → (B → Option Y) → Either A B → Option (Either X Y)
either_value one other (Left a) = option_map (λ x. Left x) (one a)
either_value one other (Right b) = option_map (λ y. Right y) (other b)

abbrev pub EitherKeeps : {A B : Type 0} → (A → Type 0) → (B → Type 0) → Either A B → Type 0
EitherKeeps one other (Left a) = one a
EitherKeeps one other (Right b) = other b

abbrev pub either_names : {A B C : Type 0} → (A → C) → (B → C) → Either A B → C
either_names one other (Left a) = one a
either_names one other (Right b) = other b

-- the first of two for a text, and else the second
abbrev pub text_side : Option (List ℕ) → Either (Unit {0}) (Unit {0})
text_side (Some text) = Left tt
text_side None = Right tt
