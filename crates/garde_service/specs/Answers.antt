-- What a service answers, by its routes.
use Rattle.std.specs.Prelude.{⊤, ℕ, ◌+◌, ◌⊎◌, List, [], ◌∷◌, codes, length, Option}
use Rattle.http.specs.declared.request.Parts.{Parts}
use Rattle.http1.specs.Fields.{Header}
use Rattle.http_server.specs.declared.response.Response.{Response}
use Rattle.http_server.specs.Response.{IsResponse}
use Rattle.httpdate.specs.declared.date.HttpDate.{HttpDate}
use Rattle.garde_service.specs.Dated.{IsDated}
use Rattle.garde_service.specs.Ending.{Rejects}
use Rattle.garde_service.specs.Rejected.{status_of}
use Rattle.garde_service.specs.Room.{HasRoom}
use Rattle.garde_service.specs.Routes.{Entry, asked, offers}
use Rattle.garde_service.specs.declared.rejected.Rejected.{Rejected}
use Rattle.garde_service.specs.declared.routes.Asks.{Asks}
use Rattle.garde_service.specs.declared.routes.Asks.TheVariants.{Answer, Rejection}
use Rattle.garde_service.specs.declared.routes.Offer.{Offer}
use Rattle.garde_service.specs.declared.routes.Offer.TheVariants.{Coding, MediaType, Methods, Nothing}
use Rattle.garde_service.specs.declared.routes.Wanted.{Wanted}

-- the field that says what there is in place of what was asked for
abbrev pub offered : Offer → List Header
offered Nothing = []
offered (Methods get post) = (codes "allow", offers (Methods get post)) ∷ []
offered (MediaType media) = (codes "accept", offers (MediaType media)) ∷ []
offered Coding = (codes "accept-encoding", offers Coding) ∷ []

-- The request is rejected for this reason: with a body of this media type and this text, and the field of the offer. Where the response
-- that was given had no room for them, it may be the status alone.
abbrev pub Refuses : List ℕ × List ℕ → Response → Rejected → Offer → Response → Type 0
Refuses body given why offer response =
    IsResponse (status_of why) ((codes "content-type", body.0) ∷ offered offer) body.1 response
    ⊎ (¬ (HasRoom (1 + length (offered offer)) (length body.1) given) × IsResponse (status_of why) [] [] response)

-- no memory is needed for the answer to what is asked: for what is free of it, and for each rejection
abbrev pub IsFree : {A : Type 0} → (A → Type 0) → Asks A → Type 0
IsFree free (Answer answer) = free answer
IsFree free (Rejection why offer) = ⊤

-- what each answer of a service gives to a request with this head and this body
abbrev pub Gives : Type 0 → Type 1
Gives A = A → Parts → List ℕ → Response → Type 0

-- what is asked for is given, or the request is rejected, without a date
abbrev pub GivesAsked : {A : Type 0} → Gives A → Rejects → Response → Asks A → Parts → List ℕ → Response → Type 0
GivesAsked gives rejects given (Answer answer) head body response = gives answer head body response
GivesAsked gives rejects given (Rejection why offer) head body response = Refuses (rejects why) given why offer response

-- The answer to a request with this head and this body: what the routes give to what it asks of them, at some date.
pub record IsAnswerOf {G P : Type 0} (routes : List (Entry G P)) (gives : Gives (Wanted G P)) (rejects : Rejects) (head : Parts) (body : List ℕ) (answer : Response) : Type 0 where
  pub given : Response
  pub plain : Response
  pub is_given : GivesAsked gives rejects given (asked routes head) head body plain
  pub date : Option HttpDate
  pub is_dated : IsDated date plain answer
