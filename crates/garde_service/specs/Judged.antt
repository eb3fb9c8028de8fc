-- What a service says of the requests that it judges, by the status of its answers: those of a valid one, and 422 of one with faults.
use Rattle.std.specs.Prelude.{◌≡◌, ◌≢◌, ◌⊎◌, ℕ, List, [], if◌then◌else◌}
use Rattle.http.specs.declared.request.Parts.{Parts}
use Rattle.http1.specs.Framing.{method_kind}
use Rattle.http1.specs.Message as Wire
use Rattle.http1.specs.Server.{is_head}
use Rattle.http_server.specs.declared.response.Response.{Response}
use Rattle.http_server.specs.Exchange.{ArePartsOf}
use Rattle.httparse.specs.Grammar.{status_code}

-- How requests are judged, each by what it asks for and by its body.
pub record Judging : Type 1 where
  -- by what they are judged: the language that is asked for, and what is asked of the routes
  pub by : Type 0
  -- the request asks to be judged by this
  pub asks : by → Parts → Type 0
  -- the body is valid
  pub is_valid : by → List ℕ → Type 0
  -- a valid body may be answered with this status
  pub is_accepted : by → List ℕ → ℕ → Type 0
  -- the body has faults, and this is their report
  pub report : Type 0
  pub has_report : by → List ℕ → report → Type 0
  -- the text tells this report of the body
  pub is_text : by → List ℕ → report → List ℕ → Type 0
  -- the body is none that can be judged
  pub is_unread : by → List ℕ → Type 0
  -- it is short enough to be read
  pub is_short : by → List ℕ → Type 0
  -- a valid one alone is answered with this status
  pub is_success : Parts → ℕ → Type 0

-- The response judges this body, by this.
abbrev pub JudgesBy : (j : Judging) → j.by → List ℕ → Response → Type 0
JudgesBy j by body r =
    (j.is_valid by body × j.is_accepted by body r.status)
    ⊎ (((report : j.report) × j.has_report by body report × (r.status ≡ 422) × j.is_text by body report r.body.items)
    ⊎ (j.is_unread by body × (r.status ≡ 400)))

-- The same, by what the request asks for.
abbrev pub Judges : (j : Judging) → Parts → List ℕ → Response → Type 0
Judges j head body r = (by : j.by) × j.asks by head × JudgesBy j by body r

-- The body of the request is valid, and may be answered with this status.
pub record Accepts (j : Judging) (head : Parts) (body : List ℕ) (status : ℕ) : Type 0 where
  pub by : j.by
  pub is_asked : j.asks by head
  pub is_valid : j.is_valid by body
  pub is_accepted : j.is_accepted by body status

-- The text tells the faults of the body, in the language that the request asks for.
pub record TellsFaults (j : Judging) (head : Parts) (body text : List ℕ) : Type 0 where
  pub by : j.by
  pub is_asked : j.asks by head
  pub report : j.report
  pub is_report : j.has_report by body report
  pub is_text : j.is_text by body report text

-- A valid request is answered with a status that it may be answered with, and nothing else with one that is a success. 422 answers each
-- request with faults and nothing else, with its own report, in the language that it asks for.
pub record IsPromised (j : Judging) (head : Parts) (body : List ℕ) (status : ℕ) (text : List ℕ) : Type 0 where
  pub accepts : j.is_success head status → Accepts j head body status
  pub reports : status ≡ 422 → TellsFaults j head body text
  pub accepts_each : (by : j.by) → j.asks by head → j.is_short by body → j.is_valid by body → j.is_accepted by body status
  pub reports_each : (by : j.by) → j.asks by head → j.is_short by body → (report : j.report) → j.has_report by body report → status ≡ 422

-- The request does not ask to be judged, and the status says so.
abbrev pub IsUnjudged : (j : Judging) → Parts → ℕ → Type 0
IsUnjudged j head status = ((by : j.by) → j.asks by head → ⊥) × ¬ (j.is_success head status) × (status ≢ 422)

-- So it is on the wire: of the text that is sent, but not to `HEAD`.
abbrev pub Promises : (j : Judging) → Wire.Request → Wire.Response → Type 0
Promises j request response =
    (head : Parts) × ArePartsOf request.head head
    × ((text : List ℕ) × (response.body.bytes ≡ (if is_head (method_kind request.head.method) then [] else text))
    × IsPromised j head request.body.bytes (status_code response.head) text)
