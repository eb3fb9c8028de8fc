-- What a response on the wire says of the request that it answers.
use Rattle.std.specs.Prelude.{◌≡◌, ℕ, List, [], ◌++◌, length, map, All, if◌then◌else◌}
use Rattle.http.specs.declared.request.Parts.{Parts}
use Rattle.httparse.specs.Grammar.{status_code}
use Rattle.httparse.specs.Spans.{name_and_value}
use Rattle.http1.specs.Fields.{Header}
use Rattle.http1.specs.Framing.{method_kind}
use Rattle.http1.specs.Message as Wire
use Rattle.http1.specs.Server.{is_head}
use Rattle.http_server.specs.declared.response.Response.{Response}
use Rattle.http_server.specs.Exchange.{ArePartsOf, IsAdded}
use Rattle.http_server.specs.Response.{fields_of}

-- the response answers a request with this head and this body
abbrev pub Answered : Type 1
Answered = Parts → List ℕ → Response → Type 0

-- The response is one that the handler answers with: its status, its fields and behind them none but those that the connection adds, and
-- its body, which `HEAD` is not sent.
pub record Fits (answered : Answered) (request : Wire.Request) (response : Wire.Response) : Type 0 where
  pub head : Parts
  pub are_parts : ArePartsOf request.head head
  pub answer : Response
  pub is_answered : answered head request.body.bytes answer
  pub status : status_code response.head ≡ answer.status
  pub added : List Header
  pub fields : map name_and_value response.head.fields ≡ fields_of answer ++ added
  pub are_added : All (IsAdded (length answer.body.items)) added
  pub body : response.body.bytes ≡ (if is_head (method_kind request.head.method) then [] else answer.body.items)
