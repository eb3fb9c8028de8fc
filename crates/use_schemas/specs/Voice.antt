-- The language of messages.
use Rattle.std.specs.Prelude.{◌≡◌, ⊤, ℕ, List, [], ◌∷◌}
use Rattle.garde.specs.Handlers.{Datum, default_text}
use Rattle.garde_catalog.specs.Catalog.{Entry, IsCatalog, catalog_text}
use Rattle.garde_catalog.specs.Forms.{catalog_form_text}
use Rattle.garde_problem.specs.CodedText.{datum_message}
use Rattle.garde_schema.specs.FormCode.{form_message}
use Rattle.garde_schema.specs.FormText.{default_form_text}
use Rattle.garde_schema.specs.Forms.{FormTexts}
use Rattle.use_schemas.specs.declared.voice.Voice.{Voice}
use Rattle.use_schemas.specs.declared.voice.Voice.TheVariants.{English, Other}

-- English, or the catalog of some table
abbrev pub IsVoice : Voice → Type 0
IsVoice English = ⊤
IsVoice (Other catalog) = (table : List Entry) × IsCatalog table [] catalog

-- the language of a tag: without one it is English
abbrev pub IsVoiceOf : List ℕ → Voice → Type 0
IsVoiceOf [] voice = voice ≡ English
IsVoiceOf (b ∷ bs) voice = IsVoice voice

-- the sentences of what rules find, and of the faults of form
abbrev pub voice_text : Voice → Datum → List ℕ
voice_text English datum = default_text datum
voice_text (Other catalog) datum = catalog_text catalog datum

abbrev pub voice_form_text : Voice → FormTexts
voice_form_text English fault = default_form_text fault
voice_form_text (Other catalog) fault = catalog_form_text catalog fault

-- the messages of both: codes beside sentences
abbrev pub rule_texts : Voice → Datum → List ℕ
rule_texts voice datum = datum_message (λ d. voice_text voice d) datum

abbrev pub form_texts : Voice → FormTexts
form_texts voice fault = form_message (λ f. voice_form_text voice f) fault
