use Rattle.std.proofs.Common.{ℕ, List, [], ◌∷◌, map, sym, subst}
use Rattle.garde_i18n.specs.Datum.{length_lower, length_greater}
use Rattle.std.specs.Prelude.{codes, string_bytes}
use Rattle.std.specs.List.{All, Contains}
use Rattle.garde.specs.Fields.{◌and◌, ascii, between, bytes, Fault, field, is, key_part, rule}
use Rattle.garde.specs.Redaction.{FindsAmong, length_faults}
use Rattle.garde.specs.RedactionLaws.{finds_under}
use Rattle.garde.specs.Words.{Entry, default_text, not_ascii}
use Rattle.test_garde.proofs.tests.laws.validate_in_secret.Goals as goal

-- the faults that a user may have
abbrev user_faults : List Fault
user_faults = rule not_ascii ∷ length_faults 3 25

-- their texts
abbrev user_texts : List (List ℕ)
user_texts = map default_text (not_ascii ∷ length_lower 3 ∷ length_greater 25 ∷ [])

-- where the rules of a name find these alone, those of the user do
user_among : (name : List ℕ) → FindsAmong user_faults (is (ascii name) and is (bytes (between 3 25) name)) → FindsAmong user_faults (field "username" (is (ascii name) and is (bytes (between 3 25) name)))
user_among name finds = finds_under (key_part (codes "username")) finds

pub returns : goal.returns
returns c report is =
    let (ctx, default, (t, v, faulty, read)) = rw is at c.validate.ensures.answer in
    let username = c.args.user.now.username in
    let finds = c.reports_hide_values.ensures.found (record { 0 = record {} }, record { 0 = record { min = 3; max = 25 } }) username in
    let among = (user_among (string_bytes username) finds).among t v in
    subst (All (λ (e : Entry). Contains user_texts e.1)) (sym read) (c.reports_hide_values.ensures.read user_faults t among default_text [])
