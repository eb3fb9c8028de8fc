-- Why `http_server` refuses the bytes of a request, by the bytes.
use Rattle.std.specs.Prelude.{◌≡◌, ◌≢◌, ℕ, ◌<◌, Bool, List, [], length, Some, IsTrue, IsFalse}
use Rattle.httparse.specs.Grammar.{HasNoRequest}
use Rattle.http.specs.Request.{head_of, body_of}
use Rattle.http1.specs.Message as Wire
use Rattle.http_server.specs.declared.state.Config.{Config}
use Rattle.http_server.specs.declared.state.Refusal.{Refusal}
use Rattle.http_server.specs.declared.state.Refusal.TheVariants.{Truncated, Unreadable, BodyTooLarge, InvalidPart, InvalidHost, UnknownCoding, InvalidResponse}
use Rattle.http_server.specs.Encoding.{answering, refusal_of}
use Rattle.http_server.specs.Exchange.{Call, ReadsCall}
use Rattle.http_server.specs.History.{HasNoMessage, NextIs, HasTooManyFields, HasInvalidPart, HasInvalidHost, HasUnknownCoding, IsReadError}
use Rattle.garde_service.specs.Fits.{Answered}

-- the call is one that the handler answers so
abbrev pub IsServiced : Answered → Call → Type 0
IsServiced answered c = answered (head_of c.0) (body_of c.0) c.1

-- Why the request that these bytes begin is refused: the input ended within it; or, whatever bytes follow, a request that they begin is
-- beyond a limit, or has a part that is refused; or `http1` refuses the answer of the handler to it.
abbrev pub IsRefusedFor : Answered → Refusal → Config → Bool → List ℕ → Type 0
IsRefusedFor answered Truncated config ended rest = IsTrue ended × (rest ≢ []) × HasNoMessage config.limits rest
IsRefusedFor answered (Unreadable e) config ended rest = NextIs config.limits rest HasTooManyFields × IsReadError config.limits rest e
IsRefusedFor answered BodyTooLarge config ended rest = NextIs config.limits rest (λ m. config.max_body_len < length m.body.bytes)
IsRefusedFor answered (InvalidPart e) config ended rest = NextIs config.limits rest (HasInvalidPart e)
IsRefusedFor answered InvalidHost config ended rest = NextIs config.limits rest HasInvalidHost
IsRefusedFor answered UnknownCoding config ended rest = NextIs config.limits rest HasUnknownCoding
IsRefusedFor answered (InvalidResponse e) config ended rest =
    (c : Call) × IsServiced answered c × (m : Wire.Request) × (after : List ℕ) × (r : ReadsCall config rest m c.0 after)
    × (refusal_of (answering config.limits m.head r.reads.framing) c.1 ≡ Some e)

-- there is only a part of a head, which may go on
abbrev pub Idles : Config → Bool → List ℕ → Type 0
Idles config ended rest = HasNoRequest rest × (length rest < config.limits.max_head_len) × IsFalse ended

-- there is something to do: more than that came, or no request can come of it
abbrev pub HasWork : Config → Bool → List ℕ → Type 0
HasWork config ended rest = Idles config ended rest → NextIs config.limits rest HasTooManyFields
