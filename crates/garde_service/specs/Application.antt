-- What an application takes and shows, and what it keeps of what it takes.
use Rattle.std.specs.Prelude.{⊤, ◌≡◌, ◌≤◌, ℕ, ◌⊎◌, List, [], ◌∷◌, length, Option, Some, None, Result, Ok, Err, codes, map, string_bytes}
use Rattle.garde.specs.Validated.{IsValid}
use Rattle.garde.specs.Visits.{Visits}
use Rattle.garde_catalog.specs.declared.catalogs.Catalogs.{Catalogs}
use Rattle.garde_report.specs.Report.{Entry}
use Rattle.garde_schema.specs.Bytes.{OfDocument}
use Rattle.garde_schema.specs.Spelling.{Spelling}
use Rattle.garde_schema.specs.declared.first_read_error.FirstReadError.{FirstReadError}
use Rattle.garde_schema.specs.declared.first_read_error.FirstReadError.TheVariants.{Parse, All}
use Rattle.garde_tape.specs.Input.{without_mark}
use Rattle.garde_tape.specs.declared.parse_error.ParseError.{ParseError}
use Rattle.http.specs.declared.request.Parts.{Parts}
use Rattle.http1.specs.Fields.{Header}
use Rattle.http_server.specs.declared.response.Response.{Response}
use Rattle.http_server.specs.Response.{IsResponse}
use Rattle.garde_service.specs.Asked.{IsLanguage, path_of}
use Rattle.garde_service.specs.Input.{input_at}
use Rattle.garde_service.specs.Json.{IsJudged, Reads, faults_text, problem_fields, voice_at}
use Rattle.garde_service.specs.Judged.{Judging}
use Rattle.garde_service.specs.Routes.{Entry as RouteEntry, asked, entry_of, pattern_of}
use Rattle.garde_service.specs.declared.application.Answer.{Answer}
use Rattle.garde_service.specs.declared.application.Answer.TheVariants as answers
use Rattle.garde_service.specs.declared.application.Page.{Page}
use Rattle.garde_service.specs.declared.application.Page.TheVariants.{Asked, Empty, Json}
use Rattle.garde_service.specs.declared.application.TheConstants.{UNAVAILABLE}
use Rattle.garde_service.specs.declared.routes.Asks.TheVariants as asks
use Rattle.garde_service.specs.declared.routes.Route.{Route}
use Rattle.garde_service.specs.declared.routes.Wanted.{Wanted}
use Rattle.garde_service.specs.declared.routes.Wanted.TheVariants.{Get, Post}

-- What is taken: the values that JSON spells, which of them are valid, and what may be answered to a valid one.
pub record Taking : Type 1 where
  pub value : Type 0
  pub spelling : Spelling value
  pub is_valid : value → Type 0
  pub answers : value → Answer → Type 0

-- the values of a type, by what JSON spells of it and by its rules
abbrev pub taking : {A C : Type 0} → Spelling A → (A → C → Visits) → (A → Answer → Type 0) → Taking
taking {A} spelling rules answers = record { value = A; spelling = spelling; is_valid = λ v. IsValid rules v; answers = answers }

-- The body spells a valid value, to which this is answered.
abbrev pub IsTaken : Taking → List ℕ → Answer → Type 0
IsTaken t body answer =
    (v : t.value) × OfDocument (without_mark body) (λ j. t.spelling.value j ≡ Some v) × t.is_valid v × t.answers v answer

abbrev pub status_of : Answer → ℕ
status_of (answers.Json text) = 200
status_of answers.NoContent = 204
status_of answers.Accepted = 202
status_of answers.Unavailable = 503

abbrev pub json_fields : List Header
json_fields = (codes "content-type", codes "application/json") ∷ []

-- the answer is this text in JSON, or that there is no memory for it
abbrev pub IsJson : List ℕ → Answer → Type 0
IsJson text (answers.Json told) = string_bytes told ≡ text
IsJson text answers.NoContent = ⊥
IsJson text answers.Accepted = ⊥
IsJson text answers.Unavailable = ⊤

-- the response is this answer
abbrev pub Says : Answer → Response → Type 0
Says (answers.Json text) r = IsResponse 200 json_fields (string_bytes text) r
Says answers.NoContent r = IsResponse 204 [] [] r
Says answers.Accepted r = IsResponse 202 [] [] r
Says answers.Unavailable r = IsResponse 503 problem_fields UNAVAILABLE.now r

-- the response is an answer to the valid value that the body spells
abbrev pub IsAnswered : Taking → List ℕ → Response → Type 0
IsAnswered t body r = (answer : Answer) × IsTaken t body answer × Says answer r

-- the response judges these bytes as what is taken, in the language that the request asks for
abbrev pub IsJudgedAs : Taking → List ℕ → Catalogs → Parts → List ℕ → Response → Type 0
IsJudgedAs t title catalogs head bytes r = IsJudged t.spelling title catalogs (λ r. IsAnswered t bytes r) head bytes r

-- the routes, as those of a handler
abbrev pub entries : {B : Type 0} → List (Route (Page B) B) → List (RouteEntry (Page B) B)
entries routes = map (λ route. entry_of route) routes

-- the kind of what is taken of a request that wants this
abbrev pub kind_of : {B : Type 0} → Wanted (Page B) B → Option B
kind_of (Get Empty) = None
kind_of (Get (Json text)) = None
kind_of (Get (Asked kind)) = Some kind
kind_of (Post kind) = Some kind

-- the bytes of a request that are judged: what its path and its query spell, or its body
abbrev pub bytes_of : {B : Type 0} → List (Route (Page B) B) → Wanted (Page B) B → Parts → List ℕ → List ℕ
bytes_of routes (Get page) head body = input_at (pattern_of (entries routes) (path_of head)) head
bytes_of routes (Post kind) head body = body

-- by what a request is judged: what it wants, the kind of that, the language, and its head
pub record By (B : Type 0) : Type 0 where
  pub wanted : Wanted (Page B) B
  pub kind : B
  pub place : Option ℕ
  pub head : Parts

module _ {B : Type 0} (routes : List (Route (Page B) B)) (takes : B → Taking) (title : List ℕ) (catalogs : Catalogs) where
  -- what is given to a request with this head and this body
  abbrev pub Gives : Wanted (Page B) B → Parts → List ℕ → Response → Type 0
  Gives (Get Empty) head body r = IsResponse 200 [] [] r
  Gives (Get (Json text)) head body r = IsResponse 200 json_fields text.now r
  Gives (Get (Asked kind)) head body r = IsJudgedAs (takes kind) title catalogs head (bytes_of routes (Get (Asked kind)) head body) r
  Gives (Post kind) head body r = IsJudgedAs (takes kind) title catalogs head body r

  -- the request asks to be judged by this
  abbrev pub AsksBy : By B → Parts → Type 0
  AsksBy by head =
      (head ≡ by.head) × (asked (entries routes) head ≡ asks.Answer by.wanted) × (kind_of by.wanted ≡ Some by.kind)
      × IsLanguage catalogs by.place head

  -- this is the result of reading the bytes of a request that are judged
  abbrev pub ReadsBy : By B → List ℕ → Result (Unit {0}) FirstReadError → Type 0
  ReadsBy by body read = Reads (takes by.kind).spelling (voice_at catalogs by.place) (bytes_of routes by.wanted by.head body) read

  -- Requests are judged so. Only a valid one that asks for it is answered with 200, and only a valid one with 202 or 204.
  abbrev pub judging : Judging
  judging = record {
    by = By B;
    asks = AsksBy;
    is_valid = λ by body. ReadsBy by body (Ok tt);
    is_accepted = λ by body status.
        (answer : Answer) × IsTaken (takes by.kind) (bytes_of routes by.wanted by.head body) answer × (status ≡ status_of answer);
    report = List Entry;
    has_report = λ by body report. ReadsBy by body (Err (All report));
    is_text = λ by body report text. text ≡ faults_text title report;
    is_unread = λ by body. (error : ParseError) × ReadsBy by body (Err (Parse error));
    is_short = λ by body. length (without_mark (bytes_of routes by.wanted by.head body)) ≤ 4294967040;
    is_success = λ head status. (status ≡ 204) ⊎ ((status ≡ 202) ⊎ ((status ≡ 200) × ((by : By B) × AsksBy by head)));
  }
