-- Why a request is rejected, and with which status.
use Rattle.std.specs.Prelude.{ℕ, List, codes}
use Rattle.garde_service.specs.declared.rejected.Rejected.{Rejected}
use Rattle.garde_service.specs.declared.rejected.Rejected.TheVariants.{BadRequest, Forbidden, NotFound, MethodNotAllowed, ContentTooLarge, UriTooLong, UnsupportedMediaType, FieldsTooLarge, InternalServerError, NotImplemented, VersionNotSupported}

abbrev pub status_of : Rejected → ℕ
status_of BadRequest = 400
status_of Forbidden = 403
status_of NotFound = 404
status_of MethodNotAllowed = 405
status_of ContentTooLarge = 413
status_of UriTooLong = 414
status_of UnsupportedMediaType = 415
status_of FieldsTooLarge = 431
status_of InternalServerError = 500
status_of NotImplemented = 501
status_of VersionNotSupported = 505

-- the status and its phrase
abbrev pub title_of : Rejected → List ℕ
title_of BadRequest = codes "400 Bad Request"
title_of Forbidden = codes "403 Forbidden"
title_of NotFound = codes "404 Not Found"
title_of MethodNotAllowed = codes "405 Method Not Allowed"
title_of ContentTooLarge = codes "413 Content Too Large"
title_of UriTooLong = codes "414 URI Too Long"
title_of UnsupportedMediaType = codes "415 Unsupported Media Type"
title_of FieldsTooLarge = codes "431 Request Header Fields Too Large"
title_of InternalServerError = codes "500 Internal Server Error"
title_of NotImplemented = codes "501 Not Implemented"
title_of VersionNotSupported = codes "505 HTTP Version Not Supported"
