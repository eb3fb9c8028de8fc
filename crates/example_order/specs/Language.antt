-- Languages, the messages in each, and what is answered to the bytes of an order.
use Rattle.std.specs.Prelude.{◌≡◌, ◌⊎◌, ℕ, List, codes, if◌then◌else◌}
use Rattle.std.specs.Str.{bytes_eq}
use Rattle.garde.specs.Handlers.{Datum, default_text}
use Rattle.garde.specs.Fields.{Visits}
use Rattle.garde_problem.specs.CodedText.{datum_message}
use Rattle.garde_schema.specs.Forms.{FormTexts}
use Rattle.garde_schema.specs.FormCode.{form_message}
use Rattle.garde_schema.specs.FormText.{default_form_text}
use Rattle.garde_library.specs.declared.status.Status.{Status}
use Rattle.garde_library.specs.declared.node.Node.{Node}
use Rattle.garde_library.specs.declared.place.Place.{Place}
use Rattle.garde_library.specs.declared.status.Status.TheVariants.{Valid, Memory}
use Rattle.garde_library.specs.Checked.{IsChecked, IsListed, IsVerdict}
use Rattle.garde_library.specs.Faults.{IsCheckedWithNodes}
use Rattle.garde_library.specs.Value.{IsGivenAs, IsNotGiven}
use Rattle.garde_schema.specs.Spelling.{Spelling, SpellsValid}
use Rattle.example_order.specs.declared.language.Language.{Language}
use Rattle.example_order.specs.declared.language.Language.TheVariants.{English, Czech}
use Rattle.example_order.specs.declared.body.TheConstants.{TITLE}
use Rattle.example_order.specs.CzechText.{czech_text, czech_form_text}

-- the language of a tag: Czech of `cs`, and English of any other and of none
abbrev pub language_of : List ℕ → Language
language_of tag = if bytes_eq tag (codes "cs") then Czech else English

-- the sentences of what rules find
abbrev pub rule_sentences : Language → Datum → List ℕ
rule_sentences English datum = default_text datum
rule_sentences Czech datum = czech_text datum

-- the sentences of the faults of form
abbrev pub form_sentences : Language → FormTexts
form_sentences English fault = default_form_text fault
form_sentences Czech fault = czech_form_text fault

-- the messages of both: codes beside sentences
abbrev pub rule_texts : Language → Datum → List ℕ
rule_texts language datum = datum_message (λ d. rule_sentences language d) datum

abbrev pub form_texts : Language → FormTexts
form_texts language fault = form_message (λ f. form_sentences language f) fault

-- These bytes were handed the answer to the bytes of a body, of which this is spelled under these rules. Valid are only bytes that spell
-- a value without a fault.
abbrev pub IsCheckedIn : {A C : Type 0} → Spelling A → (A → C → Visits) → Language → ℕ → List ℕ → List ℕ → List ℕ → ℕ → Status → Type 0
IsCheckedIn spelling rules language most body old new len status =
    IsChecked (λ j. spelling.visits (form_texts language) j) (rule_texts language) most TITLE.now body old new len status
    × (status ≡ Valid → SpellsValid spelling rules body)

-- the same, told by lines, without codes
abbrev pub IsListedIn : {A C : Type 0} → Spelling A → (A → C → Visits) → Language → ℕ → List ℕ → List ℕ → List ℕ → ℕ → Status → Type 0
IsListedIn spelling rules language most body old new len status =
    IsListed (λ j. spelling.visits (form_sentences language) j) (rule_sentences language) most body old new len status
    × (status ≡ Valid → SpellsValid spelling rules body)

-- the status tells whether the bytes are those of a body without a fault
abbrev pub IsOrder : {A C : Type 0} → Spelling A → (A → C → Visits) → List ℕ → Status → Type 0
IsOrder spelling rules body status =
    IsVerdict (λ j. spelling.visits default_form_text j) default_text body status × (status ≡ Valid → SpellsValid spelling rules body)

-- It was judged whether the bytes are those of a body without a fault. If they are, these nodes and texts were handed over, and they spell
-- the JSON value of the bytes. Else, and where memory ran out, none were.
abbrev pub IsValueOf : {A C : Type 0} → Spelling A → (A → C → Visits) → List ℕ → List Node → List Node → ℕ → List ℕ → List ℕ → ℕ → Status → Type 0
IsValueOf spelling rules body old new count old' new' len status =
    ((judged : Status) × IsOrder spelling rules body judged × IsGivenAs judged body old new count old' new' len status)
    ⊎ ((status ≡ Memory) × IsNotGiven old new count old' new' len)

-- These were handed the faults of the bytes of a body: the text of the details, their nodes, and the places.
abbrev pub AreFaultsIn : {A C : Type 0} → Spelling A → (A → C → Visits) → Language → ℕ → List ℕ → List ℕ → List ℕ → ℕ
    → List Node → List Node → ℕ → List ℕ → List ℕ → ℕ → List Place → List Place → ℕ → Status → Type 0
AreFaultsIn spelling rules language most body out out' size nodes nodes' count texts texts' len places places' found status =
    IsCheckedWithNodes (λ j. spelling.visits (form_texts language) j) (rule_texts language) most TITLE.now body out out' size
    nodes nodes' count texts texts' len places places' found status
    × (status ≡ Valid → SpellsValid spelling rules body)
