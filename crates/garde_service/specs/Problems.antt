-- The problem details of a request that is rejected.
use Rattle.std.specs.Prelude.{ℕ, List, codes}
use Rattle.garde_service.specs.declared.rejected.Rejected.{Rejected}
use Rattle.garde_service.specs.declared.rejected.Rejected.TheVariants.{BadRequest, Forbidden, NotFound, MethodNotAllowed, ContentTooLarge, UriTooLong, UnsupportedMediaType, FieldsTooLarge, InternalServerError, NotImplemented, VersionNotSupported}

-- their text
abbrev pub problem_of : Rejected → List ℕ
problem_of BadRequest = codes "{\"type\":\"about:blank\",\"title\":\"Bad Request\",\"status\":400}"
problem_of Forbidden = codes "{\"type\":\"about:blank\",\"title\":\"Forbidden\",\"status\":403}"
problem_of NotFound = codes "{\"type\":\"about:blank\",\"title\":\"Not Found\",\"status\":404}"
problem_of MethodNotAllowed = codes "{\"type\":\"about:blank\",\"title\":\"Method Not Allowed\",\"status\":405}"
problem_of ContentTooLarge = codes "{\"type\":\"about:blank\",\"title\":\"Content Too Large\",\"status\":413}"
problem_of UriTooLong = codes "{\"type\":\"about:blank\",\"title\":\"URI Too Long\",\"status\":414}"
problem_of UnsupportedMediaType = codes "{\"type\":\"about:blank\",\"title\":\"Unsupported Media Type\",\"status\":415}"
problem_of FieldsTooLarge = codes "{\"type\":\"about:blank\",\"title\":\"Request Header Fields Too Large\",\"status\":431}"
problem_of InternalServerError = codes "{\"type\":\"about:blank\",\"title\":\"Internal Server Error\",\"status\":500}"
problem_of NotImplemented = codes "{\"type\":\"about:blank\",\"title\":\"Not Implemented\",\"status\":501}"
problem_of VersionNotSupported = codes "{\"type\":\"about:blank\",\"title\":\"HTTP Version Not Supported\",\"status\":505}"
