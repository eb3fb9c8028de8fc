-- The answers in which no form is judged.
use Rattle.std.specs.Prelude.{ℕ, List}
use Rattle.garde_service.specs.declared.rejected.Rejected.{Rejected}
use Rattle.garde_service.specs.declared.rejected.Rejected.TheVariants.{BadRequest, Forbidden, NotFound, MethodNotAllowed, ContentTooLarge, UriTooLong, UnsupportedMediaType, FieldsTooLarge, InternalServerError, NotImplemented, VersionNotSupported}
use Rattle.use_signup.specs.declared.refused.TheConstants as pages

-- the page
abbrev pub page_of : Rejected → List ℕ
page_of BadRequest = pages.BAD_REQUEST.now
page_of Forbidden = pages.FORBIDDEN.now
page_of NotFound = pages.NOT_FOUND.now
page_of MethodNotAllowed = pages.METHOD_NOT_ALLOWED.now
page_of ContentTooLarge = pages.CONTENT_TOO_LARGE.now
page_of UriTooLong = pages.URI_TOO_LONG.now
page_of UnsupportedMediaType = pages.UNSUPPORTED_MEDIA_TYPE.now
page_of FieldsTooLarge = pages.FIELDS_TOO_LARGE.now
page_of InternalServerError = pages.INTERNAL_SERVER_ERROR.now
page_of NotImplemented = pages.NOT_IMPLEMENTED.now
page_of VersionNotSupported = pages.VERSION_NOT_SUPPORTED.now
