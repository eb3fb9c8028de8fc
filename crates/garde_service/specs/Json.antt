-- What is answered to a body that is judged as JSON.
use Rattle.std.specs.Prelude.{◌^◌, ◌-◌, ℕ, ◌⊎◌, List, [], ◌∷◌, ◌++◌, Option, Result, Ok, Err, codes}
use Rattle.std.specs.Fmt.{decimal}
use Rattle.json.specs.Json.{string, number, array, object, no_members, member}
use Rattle.garde.specs.Handlers.{Datum}
use Rattle.garde_catalog.specs.Catalog.{catalog_text}
use Rattle.garde_catalog.specs.Catalogs.{catalog_at, tag_at}
use Rattle.garde_catalog.specs.Forms.{catalog_form_text}
use Rattle.garde_catalog.specs.Parse.{catalog_parse_text}
use Rattle.garde_catalog.specs.declared.catalog.Catalog.{Catalog}
use Rattle.garde_catalog.specs.declared.catalogs.Catalogs.{Catalogs}
use Rattle.garde_problem.specs.CodedText.{datum_message}
use Rattle.garde_problem.specs.Problem.{faults_json, json_text}
use Rattle.garde_report.specs.Report.{Entry}
use Rattle.garde_schema.specs.FirstRead.{AnswersFirstBytes}
use Rattle.garde_schema.specs.FormCode.{form_message}
use Rattle.garde_schema.specs.Forms.{FormTexts}
use Rattle.garde_schema.specs.Spelling.{Spelling}
use Rattle.garde_schema.specs.declared.first_read_error.FirstReadError.{FirstReadError}
use Rattle.garde_schema.specs.declared.first_read_error.FirstReadError.TheVariants.{Parse, All, First, Memory}
use Rattle.garde_tape.specs.Input.{without_mark}
use Rattle.garde_tape.specs.declared.parse_error.ParseError.{ParseError}
use Rattle.http.specs.declared.request.Parts.{Parts}
use Rattle.http1.specs.Fields.{Header}
use Rattle.http_server.specs.declared.response.Response.{Response}
use Rattle.http_server.specs.Response.{IsResponse}
use Rattle.garde_service.specs.Asked.{IsLanguage}
use Rattle.garde_service.specs.Said.{language_fields}

-- the field that says that a body is problem details
abbrev pub problem_fields : List Header
problem_fields = (codes "content-type", codes "application/problem+json") ∷ []

-- the problem details of a body with these faults, under this title
abbrev pub faults_text : List ℕ → List Entry → List ℕ
faults_text title report = json_text (object
    (member (codes "title") (string title)
    (member (codes "status") (number (decimal 422))
    (member (codes "errors") (array (faults_json report)) no_members))))

-- the problem details of a body that is not read as JSON, for this reason, with these faults
abbrev pub no_json_text : List ℕ → List Entry → List ℕ
no_json_text reason report = json_text (object
    (member (codes "title") (string (codes "the body is not read as JSON"))
    (member (codes "status") (number (decimal 400))
    (member (codes "detail") (string reason)
    (member (codes "errors") (array (faults_json report)) no_members)))))

-- What is said, and the tag of its language: the texts of faults of form and of rules, and of what is not read as JSON.
pub record Voice : Type 0 where
  pub form_text : FormTexts
  pub text : Datum → List ℕ
  pub parse_text : ParseError → List ℕ
  pub tag : List ℕ

-- problem details in a language
abbrev pub Says : Voice → ℕ → List ℕ → Response → Type 0
Says voice status text response = IsResponse status (problem_fields ++ language_fields voice.tag) text response

-- what is said by a catalog, under this tag: codes beside its texts of faults, and its texts of what is not read as JSON
abbrev pub voice : Catalog → List ℕ → Voice
voice catalog tag = record {
  form_text = λ fault. form_message (λ f. catalog_form_text catalog f) fault;
  text = λ datum. datum_message (λ d. catalog_text catalog d) datum;
  parse_text = λ error. catalog_parse_text catalog error;
  tag = tag;
}

-- the same in the language of this place, or in the one for where none is asked for
abbrev pub voice_at : Catalogs → Option ℕ → Voice
voice_at catalogs place = voice (catalog_at catalogs place) (tag_at catalogs place)

-- this is the result of reading a body, behind a byte order mark if there is one, with the faults told in this voice
abbrev pub Reads : {A : Type 0} → Spelling A → Voice → List ℕ → Result (Unit {0}) FirstReadError → Type 0
Reads spelling voice body read = AnswersFirstBytes (λ j. spelling.visits voice.form_text j) voice.text (2 ^ 64 - 1) (without_mark body) read

-- how a body is answered that spells no valid value: 422 with the problem details of its report, or 400
abbrev pub TellsError : List ℕ → Voice → FirstReadError → Response → Type 0
TellsError title voice (All report) response = Says voice 422 (faults_text title report) response
TellsError title voice (Parse error) response = Says voice 400 (no_json_text (voice.parse_text error) []) response
TellsError title voice (First report) response = ⊥
TellsError title voice Memory response = ⊥

-- The response answers this body: so, where it spells a valid value, and else by why it does not.
abbrev pub JudgesBody : {A : Type 0} → Spelling A → List ℕ → Voice → (Response → Type 0) → List ℕ → Response → Type 0
JudgesBody spelling title voice accepted body response =
    (Reads spelling voice body (Ok tt) × accepted response)
    ⊎ ((error : FirstReadError) × Reads spelling voice body (Err error) × TellsError title voice error response)

-- the same in the language that the request asks for
abbrev pub IsJudged : {A : Type 0} → Spelling A → List ℕ → Catalogs → (Response → Type 0) → Parts → List ℕ → Response → Type 0
IsJudged spelling title catalogs accepted head body response =
    (place : Option ℕ) × IsLanguage catalogs place head × JudgesBody spelling title (voice_at catalogs place) accepted body response
