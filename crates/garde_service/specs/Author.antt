-- What an author of a handler relies on: a request asks for one language, each status of a rejection is an error, and no answer hands the
-- connection over.
use Rattle.std.proofs.Common.{◌≡◌, ◌≢◌, ◌≤◌, arith, ℕ, List, Option, Some, None, codes, sym, ◌∙◌, inl, inr}
use Rattle.garde_catalog.specs.Catalogs.{offered_by}
use Rattle.garde_catalog.specs.Field.{wants_in}
use Rattle.garde_catalog.specs.declared.catalogs.Catalogs.{Catalogs}
use Rattle.garde_catalog.specs.declared.language.Language.{Language}
use Rattle.http.specs.declared.request.Parts.{Parts}
use Rattle.http_header.specs.FieldValue.{FieldValue}
use Rattle.http_header.specs.HeaderMap.{get}
use Rattle.http_server.specs.declared.response.Response.{Response}
use Rattle.garde_service.specs.Asked.{IsAskedIn, IsLanguage}
use Rattle.garde_service.specs.Answers.{Gives, GivesAsked, IsAnswerOf, Refuses}
use Rattle.garde_service.specs.Ending.{Rejects}
use Rattle.garde_service.specs.Rejected.{status_of}
use Rattle.garde_service.specs.Routes.{Entry, asked}
use Rattle.garde_service.specs.declared.rejected.Rejected.{Rejected}
use Rattle.garde_service.specs.declared.rejected.Rejected.TheVariants.{BadRequest, Forbidden, NotFound, MethodNotAllowed, ContentTooLarge, UriTooLong, UnsupportedMediaType, FieldsTooLarge, InternalServerError, NotImplemented, VersionNotSupported}
use Rattle.garde_service.specs.declared.routes.Asks.{Asks}
use Rattle.garde_service.specs.declared.routes.Asks.TheVariants.{Answer, Rejection}
use Rattle.garde_service.specs.declared.routes.Offer.{Offer}
use Rattle.garde_service.specs.declared.routes.Wanted.{Wanted}
use Rattle.garde_service.specs.Picked.{picked_once}

is_one_place : (offered : List Language) (field : Option FieldValue) (one other : Option ℕ) → IsAskedIn offered field one → IsAskedIn offered field other
    → one ≡ other
is_one_place offered None one other a b = a ∙ sym b
is_one_place offered (Some value) one other a b = picked_once (wants_in value.bytes) offered one other a b

pub is_one_language : (catalogs : Catalogs) (one other : Option ℕ) (head : Parts) → IsLanguage catalogs one head → IsLanguage catalogs other head
    → one ≡ other
is_one_language catalogs one other head a b = is_one_place (offered_by catalogs) (get head.headers (codes "accept-language")) one other a b

-- a rejection is an error, and not of faults
pub is_error : (why : Rejected) → (400 ≤ status_of why) × (status_of why ≢ 422)
is_error BadRequest = (omega arith, λ e. omega (arith, e))
is_error Forbidden = (omega arith, λ e. omega (arith, e))
is_error NotFound = (omega arith, λ e. omega (arith, e))
is_error MethodNotAllowed = (omega arith, λ e. omega (arith, e))
is_error ContentTooLarge = (omega arith, λ e. omega (arith, e))
is_error UriTooLong = (omega arith, λ e. omega (arith, e))
is_error UnsupportedMediaType = (omega arith, λ e. omega (arith, e))
is_error FieldsTooLarge = (omega arith, λ e. omega (arith, e))
is_error InternalServerError = (omega arith, λ e. omega (arith, e))
is_error NotImplemented = (omega arith, λ e. omega (arith, e))
is_error VersionNotSupported = (omega arith, λ e. omega (arith, e))

-- the status of a rejection, with a body or alone
pub rejected_status : (body : List ℕ × List ℕ) (given : Response) (why : Rejected) (offer : Offer) (r : Response) → Refuses body given why offer r
    → r.status ≡ status_of why
rejected_status body given why offer r a = elim a [ inl whole ↦ whole.status | inr bare ↦ bare.1.status ]

module _ {G P : Type 0} (routes : List (Entry G P)) (gives : Gives (Wanted G P)) (rejects : Rejects)
    (each : (a : Wanted G P) (head : Parts) (body : List ℕ) (r : Response) → gives a head body r → r.status ≢ 101) where
  given_stays : (given plain : Response) (asks : Asks (Wanted G P)) (head : Parts) (body : List ℕ) → GivesAsked gives rejects given asks head body plain
      → plain.status ≢ 101
  given_stays given plain (Answer a) head body x = each a head body plain x
  given_stays given plain (Rejection why offer) head body x =
      λ e. omega (arith, e, rejected_status (rejects why) given why offer plain x, (is_error why).0)

  -- no answer of a service hands the connection over, if nothing that it gives does
  pub never_upgrades : (head : Parts) (body : List ℕ) (r : Response) → IsAnswerOf routes gives rejects head body r → r.status ≢ 101
  never_upgrades head body r x = λ e. given_stays x.given x.plain (asked routes head) head body x.is_given (sym x.is_dated.0 ∙ e)
