-- What JSON spells of what has no parts. Each word is that of a form.
use Rattle.std.specs.Prelude.{ℕ, false, Some}
use Rattle.json.specs.Find.{is_null}
use Rattle.garde.specs.Visits.{none}
use Rattle.garde_tape.specs.Look.{kind_of}
use Rattle.garde_schema.specs.declared.fault.FormFault.TheVariants.{Wrong}
use Rattle.garde_schema.specs.declared.fault.Wanted.TheVariants as wanted
use Rattle.garde_schema.specs.Forms.{formed, where_true}
use Rattle.garde_schema.specs.Spelling.{Members, Spelling}

-- `null`
abbrev pub a_null : Spelling (Unit {0})
a_null = record {
  value = λ j. where_true (is_null j);
  visits = λ texts j. formed (texts (Wrong wanted.Null (kind_of j))) (λ _. none) (where_true (is_null j));
}

-- no member
abbrev pub no_members : Members (Unit {0})
no_members = record { value = λ _. Some tt; visits = λ _ _. none; names = λ _. false }
