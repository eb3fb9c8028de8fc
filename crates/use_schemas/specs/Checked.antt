-- What is answered to the bytes of a body by the bytes of a schema.
use Rattle.std.specs.Prelude.{◌≡◌, ◌⊎◌, ℕ, List, []}
use Rattle.garde.specs.Handlers.{default_text}
use Rattle.garde_tape.specs.Input.{without_mark}
use Rattle.garde_tape.specs.declared.parse_error.ParseError.{ParseError}
use Rattle.garde_schema.specs.Bytes.{NoDocument}
use Rattle.garde_schema.specs.FormText.{default_form_text}
use Rattle.garde_library.specs.Checked.{IsChecked, IsHanded, IsListed, IsVerdict}
use Rattle.garde_library.specs.Faults.{IsCheckedWithNodes, IsNoFault}
use Rattle.garde_library.specs.Value.{IsGivenAs, IsNotGiven}
use Rattle.garde_library.specs.declared.node.Node.{Node}
use Rattle.garde_library.specs.declared.place.Place.{Place}
use Rattle.garde_library.specs.declared.status.Status.{Status}
use Rattle.garde_library.specs.declared.status.Status.TheVariants.{Memory, WrongArgument}
use Rattle.use_schemas.specs.Rules.{AreRules, asked_by, rules_text}
use Rattle.use_schemas.specs.declared.rules.Rules.{Rules}
use Rattle.use_schemas.specs.Voice.{IsVoiceOf, form_texts, rule_texts, voice_form_text, voice_text}
use Rattle.use_schemas.specs.declared.check.TheConstants.{TITLE}
use Rattle.use_schemas.specs.declared.voice.Voice.{Voice}

-- the schema is no JSON text, or memory ran out
abbrev pub IsUnread : List ℕ → Status → Type 0
IsUnread schema status =
    ((status ≡ WrongArgument) × ((error : ParseError) × NoDocument (without_mark (rules_text schema)) error)) ⊎ (status ≡ Memory)

-- this holds of the rules of a schema, in the language of a tag
abbrev pub InLanguage : List ℕ → List ℕ → (Rules → Voice → Type 0) → Type 0
InLanguage schema tag holds = (rules : Rules) × AreRules schema rules × ((voice : Voice) × IsVoiceOf tag voice × holds rules voice)

-- These bytes were handed the answer to the bytes of a body by what the schema asks; or the schema was not read, and nothing was.
abbrev pub IsCheckedBy : List ℕ → List ℕ → ℕ → List ℕ → List ℕ → List ℕ → ℕ → Status → Type 0
IsCheckedBy schema tag most body old new len status =
    InLanguage schema tag (λ rules voice. IsChecked (λ j. asked_by rules (form_texts voice) j) (rule_texts voice) most TITLE.now body old new len status)
    ⊎ (IsUnread schema status × IsHanded [] old new len)

-- the same, told by lines, without codes
abbrev pub IsListedBy : List ℕ → List ℕ → ℕ → List ℕ → List ℕ → List ℕ → ℕ → Status → Type 0
IsListedBy schema tag most body old new len status =
    InLanguage schema tag (λ rules voice. IsListed (λ j. asked_by rules (voice_form_text voice) j) (voice_text voice) most body old new len status)
    ⊎ (IsUnread schema status × IsHanded [] old new len)

-- the status tells whether the bytes of a body meet rules
abbrev pub IsJudged : Rules → List ℕ → Status → Type 0
IsJudged rules body status = IsVerdict (λ j. asked_by rules default_form_text j) default_text body status

-- the same of the rules of a schema; or it was not read
abbrev pub IsVerdictBy : List ℕ → List ℕ → Status → Type 0
IsVerdictBy schema body status = ((rules : Rules) × AreRules schema rules × IsJudged rules body status) ⊎ IsUnread schema status

-- It was judged whether the bytes of a body meet the schema. If they do, these nodes and texts were handed over, and they spell the JSON
-- value of the bytes. Else, and where the schema was not read, none were.
abbrev pub IsValueBy : List ℕ → List ℕ → List Node → List Node → ℕ → List ℕ → List ℕ → ℕ → Status → Type 0
IsValueBy schema body old new count old' new' len status =
    ((rules : Rules) × AreRules schema rules × ((judged : Status) × IsJudged rules body judged × IsGivenAs judged body old new count old' new' len status))
    ⊎ (IsUnread schema status × IsNotGiven old new count old' new' len)

-- These were handed the faults of the bytes of a body: the text of the details, their nodes, and the places.
abbrev pub AreFaultsBy : List ℕ → List ℕ → ℕ → List ℕ → List ℕ → List ℕ → ℕ
    → List Node → List Node → ℕ → List ℕ → List ℕ → ℕ → List Place → List Place → ℕ → Status → Type 0
AreFaultsBy schema tag most body out out' size nodes nodes' count texts texts' len places places' found status =
    InLanguage schema tag (λ rules voice. IsCheckedWithNodes (λ j. asked_by rules (form_texts voice) j) (rule_texts voice) most TITLE.now body
    out out' size nodes nodes' count texts texts' len places places' found status)
    ⊎ (IsUnread schema status × IsNoFault out out' size nodes nodes' count texts texts' len places places' found)
