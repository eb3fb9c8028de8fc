-- The answer to a request that `http_server` refuses, which is the last of its connection.
use Rattle.std.specs.Prelude.{◌≡◌, ℕ, ◌⊎◌, List, [], ◌++◌, length, codes, Option, Some, None}
use Rattle.std.specs.Fmt.{decimal}
use Rattle.httpdate.specs.Date.{date_text}
use Rattle.httpdate.specs.declared.date.HttpDate.{HttpDate}
use Rattle.http_server.specs.declared.state.Refusal.{Refusal}
use Rattle.http_server.specs.Refusal as server
use Rattle.http_server.specs.declared.state.State.{State}
use Rattle.http_server.specs.declared.state.State.TheVariants.{Closing}
use Rattle.http_server.specs.declared.state.Reason.TheVariants.{Refused as Refusing}
use Rattle.garde_service.specs.declared.rejection.TheConstants as words
use Rattle.garde_service.specs.declared.rejected.Rejected.{Rejected}
use Rattle.garde_service.specs.declared.rejected.Rejected.TheVariants.{BadRequest, ContentTooLarge, UriTooLong, FieldsTooLarge, InternalServerError, NotImplemented, VersionNotSupported}
use Rattle.garde_service.specs.Heads.{HasHead}
use Rattle.garde_service.specs.Rejected.{title_of}

-- the media type and the text of the body with which a handler rejects a request, by why it is rejected
abbrev pub Rejects : Type 0
Rejects = Rejected → List ℕ × List ℕ

-- what `http_server` answers: a status, and no body; nothing for a reason that it does not have
abbrev pub plain_of : Rejected → List ℕ
plain_of BadRequest = words.BAD_REQUEST.now
plain_of ContentTooLarge = words.TOO_LARGE.now
plain_of UriTooLong = words.URI_TOO_LONG.now
plain_of FieldsTooLarge = words.TOO_MANY_FIELDS.now
plain_of InternalServerError = words.SERVER_ERROR.now
plain_of NotImplemented = words.NOT_IMPLEMENTED.now
plain_of VersionNotSupported = words.BAD_REQUEST.now
plain_of _ = []

-- the field of the date, where there is one
abbrev pub date_field : Option HttpDate → List ℕ
date_field None = []
date_field (Some day) = words.DATE.now ++ date_text day

-- the fields of a body of this media type, and the body; or the field that says that there is none
abbrev pub body_text : Option (List ℕ × List ℕ) → List ℕ
body_text None = words.NO_BODY.now
body_text (Some body) = words.TYPE.now ++ (body.0 ++ (words.LENGTH.now ++ (decimal (length body.1) ++ (words.BODY.now ++ body.1))))

-- what stands in its place: the same, or the status of another version, perhaps with a date and a body
abbrev pub rejection_text : Rejected → Option (List ℕ × List ℕ) → Option HttpDate → List ℕ
rejection_text why body date = codes "HTTP/1.1 " ++ (title_of why ++ (words.CLOSES.now ++ (date_field date ++ body_text body)))

-- the body of the handler, or none where the request is by `HEAD`
abbrev pub IsContent : Rejects → Type 0 → Rejected → Option (List ℕ × List ℕ) → Type 0
IsContent rejects by_head kind body = (by_head × (body ≡ None)) ⊎ ((¬ by_head) × (body ≡ Some (rejects kind)))

-- what is written in place of the answer of `http_server`: one with the same status, or with 505 for 400, perhaps with a date
abbrev pub IsRejectionText : Rejects → Type 0 → Refusal → List ℕ → Type 0
IsRejectionText rejects by_head why text =
    (kind : Rejected) × (body : Option (List ℕ × List ℕ)) × (date : Option HttpDate) × (plain_of kind ≡ server.refusal_text why)
    × IsContent rejects by_head kind body × (text ≡ rejection_text kind body date)

-- What is written where these bytes were received and those are pending, by how the connection stands: they, or what stands in place of
-- the answer of `http_server` to a refusal, with which they end. It has no body exactly where `HEAD ` was received. The answer of
-- `http_server` itself is written only if `plain`.
abbrev pub Ends : Rejects → Type 0 → State → List ℕ → List ℕ → List ℕ → Type 0
Ends rejects plain state received pending text =
    ((text ≡ pending) × ((why : Refusal) → state ≡ Closing (Refusing why) → plain))
    ⊎ ((why : Refusal) × (front : List ℕ) × (rejection : List ℕ) × (state ≡ Closing (Refusing why))
    × (pending ≡ front ++ server.refusal_text why) × IsRejectionText rejects (HasHead received) why rejection × (text ≡ front ++ rejection))
