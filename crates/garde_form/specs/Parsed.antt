-- What JSON spells of a value that a text writes and a parser reads. Each word is that of a form.
use Rattle.std.specs.Prelude.{ℕ, List, Option, None, option_and_then}
use Rattle.json.specs.Find.{as_str}
use Rattle.garde.specs.Visits.{none}
use Rattle.garde_tape.specs.Look.{kind_of}
use Rattle.garde_tape.specs.declared.kind.Kind.TheVariants as kinds
use Rattle.garde_schema.specs.declared.fault.FormFault.TheVariants.{Wrong}
use Rattle.garde_schema.specs.declared.fault.Wanted.{Wanted}
use Rattle.garde_schema.specs.declared.fault.Wanted.TheVariants as wanted
use Rattle.garde_schema.specs.Forms.{formed}
use Rattle.garde_schema.specs.Whole.{number_visits}
use Rattle.garde_schema.specs.Spelling.{Spelling}
use Rattle.garde_form.specs.Texts.{character_text, unread}

-- a text in quotes that a parser reads; of another text the fault is that this is wanted
abbrev pub a_parsed : {A : Type 0} → Wanted → (List ℕ → Option A) → Spelling A
a_parsed what parsed = record {
  value = λ j. option_and_then (λ text. parsed text) (as_str j);
  visits = λ texts j. formed (texts (Wrong wanted.Text (kind_of j)))
      (λ text. number_visits (unread None (texts (Wrong what kinds.Text))) (λ _. none) (parsed text)) (as_str j);
}

-- a text of one character
abbrev pub a_character : Spelling ℕ
a_character = a_parsed wanted.Character (λ text. character_text text)
