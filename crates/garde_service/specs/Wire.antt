-- What was read from a connection and written to it.
use Rattle.std.specs.Prelude.{◌≡◌, ℕ, zero, suc, ◌≤◌, Bool, true, false, not, List, [], ◌++◌, length, Result, Ok, Err, IsTrue, ⊤, ◌⊎◌}
use Rattle.httparse.specs.Grammar.{print_response}
use Rattle.http1.specs.declared.conn.Limits.{Limits}
use Rattle.http1.specs.Framing.{method_kind}
use Rattle.http1.specs.Message as Wire
use Rattle.http1.specs.Message.{known_of, ReadsRequestMessage, ReadsResponseMessage}
use Rattle.http_server.specs.declared.state.Config.{Config}
use Rattle.http_server.specs.declared.state.State.{State}
use Rattle.http_server.specs.declared.state.State.TheVariants.{Open, Closing, Upgraded, Aborted}
use Rattle.http_server.specs.declared.state.Reason.TheVariants.{Asked, EndOfInput, Refused}
use Rattle.http_server.specs.declared.state.Refusal.{Refusal}
use Rattle.http_server.specs.Exchange.{IsInterim, keeps_open}
use Rattle.http_server.specs.Refusal.{refusal_text}
use Rattle.garde_service.specs.Ending.{Rejects, IsRejectionText}
use Rattle.garde_service.specs.Fits.{Answered, Fits}
use Rattle.garde_service.specs.Heads.{HasHead, IsByHead}
use Rattle.garde_service.specs.Reasons.{IsRefusedFor, HasWork}

-- A client that sent a request with this method, and has room for the head, reads the text, whole, as this response.
abbrev pub IsReadAs : List ℕ → List ℕ → Wire.Response → Type 0
IsReadAs method text response =
    (limits : Limits) → length (print_response response.head) ≤ limits.max_head_len → 2 ≤ limits.max_trailers_len
    → ReadsResponseMessage limits (method_kind method) text response []

-- The bytes that were read begin with a request. The text is all that is written for it: `100 Continue` where that was asked for, or
-- nothing, and then a response that fits the request. The connection stays open unless the request asked to close it, and the response
-- says whether it does.
pub record IsExchange (answered : Answered) (config : Config) (stays : Bool) (stream text rest : List ℕ) : Type 0 where
  pub request : Wire.Request
  pub reads : ReadsRequestMessage config.limits stream request rest
  pub within : length request.body.bytes ≤ config.max_body_len
  pub interim : List ℕ
  pub is_interim : IsInterim config.limits stream interim
  pub answer : List ℕ
  pub joined : text ≡ interim ++ answer
  pub response : Wire.Response
  pub is_read : IsReadAs request.head.method answer response
  pub fits : Fits answered request response
  pub persists : keeps_open request.head fits.answer ≡ stays
  pub announced : (known_of response.head.fields).close ≡ not stays

-- so many requests and the answers to them, in order, each of which leaves the connection open
abbrev pub AreExchanges : Answered → Config → ℕ → List ℕ → List ℕ → List ℕ → Type 0
AreExchanges answered config zero stream text rest = (stream ≡ rest) × (text ≡ [])
AreExchanges answered config (suc n) stream text rest =
    (first : List ℕ) × (after : List ℕ) × (later : List ℕ) × (text ≡ first ++ later)
    × IsExchange answered config true stream first after × AreExchanges answered config n after later rest

-- What is written last where the next request is rejected: the answer of the handler, or, only if `plain`, that of `http_server`.
abbrev pub IsLast : Rejects → Type 0 → List ℕ → Refusal → List ℕ → Type 0
IsLast rejects plain read why text = (plain × (text ≡ refusal_text why)) ⊎ IsRejectionText rejects (HasHead read) why text

-- What follows them, by how the connection stands, and what is written for it. `ended`: the reader has nothing more.
-- Asked: one more exchange, which closes the connection. EndOfInput: nothing more came. Refused: what came has this reason to be
-- refused, and is, with no content exactly where `HEAD ` was among what was read, so also if it is by `HEAD`. Aborted: memory ran out
-- where there was work to do. No request hands the connection over.
abbrev pub Follows : Answered → Rejects → Type 0 → State → Config → Bool → List ℕ → List ℕ → List ℕ → Type 0
Follows answered rejects plain Open config ended read rest text = IsInterim config.limits rest text
Follows answered rejects plain (Closing Asked) config ended read rest text = (after : List ℕ) × IsExchange answered config false rest text after
Follows answered rejects plain (Closing EndOfInput) config ended read rest text = IsTrue ended × (rest ≡ []) × (text ≡ [])
Follows answered rejects plain (Closing (Refused why)) config ended read rest text =
    IsRefusedFor answered why config ended rest × (IsByHead rest → HasHead read)
    × ((interim : List ℕ) × IsInterim config.limits rest interim
    × ((refusal : List ℕ) × IsLast rejects plain read why refusal × (text ≡ interim ++ refusal)))
Follows answered rejects plain Upgraded config ended read rest text = ⊥
Follows answered rejects plain Aborted config ended read rest text = IsInterim config.limits rest text × HasWork config ended rest

-- What was read begins with requests. The text is the answers to them, in order, and what is written for what follows.
pub record IsConversation (answered : Answered) (rejects : Rejects) (plain : Type 0) (config : Config) (state : State) (ended : Bool) (read text : List ℕ) : Type 0 where
  pub count : ℕ
  pub answers : List ℕ
  pub rest : List ℕ
  pub exchanges : AreExchanges answered config count read answers rest
  pub last : List ℕ
  pub follows : Follows answered rejects plain state config ended read rest last
  pub joined : text ≡ answers ++ last

-- What was read and written when a call returned this. Where the connection closed, the whole conversation was written. Where memory
-- ran out, or reading or writing failed, a first part of one was, which may end in the answer of `http_server` to what it refuses.
abbrev pub IsTalk : {E : Type 0} → Answered → Rejects → Config → Bool → List ℕ → List ℕ → Result State E → Type 0
IsTalk answered rejects config ended read written (Ok Open) = ⊥
IsTalk answered rejects config ended read written (Ok (Closing why)) = IsConversation answered rejects ⊥ config (Closing why) ended read written
IsTalk answered rejects config ended read written (Ok Upgraded) = ⊥
IsTalk answered rejects config ended read written (Ok Aborted) =
    (unwritten : List ℕ) × IsConversation answered rejects ⊥ config Aborted ended read (written ++ unwritten)
IsTalk answered rejects config ended read written (Err e) =
    (state : State) × (unwritten : List ℕ) × IsConversation answered rejects ⊤ config state ended read (written ++ unwritten)
