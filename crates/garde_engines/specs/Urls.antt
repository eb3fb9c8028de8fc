-- Which texts are URLs, by the definition that `url` has of the parser of the URL Standard.
use Rattle.std.specs.Prelude.{◌≡◌, ℕ, List, Option, Some, None, Result, Ok, Err, option_map}
use Rattle.url.specs.Parser.{parse_url, Parsed}
use Rattle.url.specs.Parts.{Parts}
use Rattle.url.specs.declared.error.ParseError.{ParseError}
use Rattle.url.specs.declared.error.ParseError.TheVariants as error
use Rattle.garde_i18n.specs.declared.reasons.InvalidUrl.{InvalidUrl}
use Rattle.garde_i18n.specs.declared.reasons.InvalidUrl.TheVariants as reason

-- The reason of an error: that of the same name, and `Other` where there is none of it.
-- `OutOfMemory` and a URL of 4 GB have none, since they say nothing about the text.
abbrev pub reason_of : ParseError → Option InvalidUrl
reason_of error.EmptyHost = Some reason.EmptyHost
reason_of error.IdnaError = Some reason.IdnaError
reason_of error.InvalidPort = Some reason.InvalidPort
reason_of error.InvalidIpv4Address = Some reason.InvalidIpv4Address
reason_of error.InvalidIpv6Address = Some reason.InvalidIpv6Address
reason_of error.InvalidDomainCharacter = Some reason.InvalidDomainCharacter
reason_of error.RelativeUrlWithoutBase = Some reason.RelativeUrlWithoutBase
reason_of error.RelativeUrlWithCannotBeABaseBase = Some reason.RelativeUrlWithCannotBeABaseBase
reason_of error.SetHostOnCannotBeABaseUrl = Some reason.SetHostOnCannotBeABaseUrl
reason_of error.CannotSet = Some reason.Other
reason_of error.Overflow = None
reason_of error.OutOfMemory = None

-- the parser gives a URL of the text
abbrev pub IsUrl : List ℕ → Type 0
IsUrl text = (url : Parts) × (parse_url None text ≡ Ok url)

-- the parser gives an error of this reason of the text
abbrev pub IsNoUrl : List ℕ → InvalidUrl → Type 0
IsNoUrl text reason =
    (error : ParseError) × (parse_url None text ≡ Err error) × (reason_of error ≡ Some reason)

-- Ok of a URL, and else the reason of the error; nothing of an error without a reason
abbrev pub answer_of : Parsed Parts → Option (Result (Unit {0}) InvalidUrl)
answer_of (Ok url) = Some (Ok tt)
answer_of (Err error) = option_map Err (reason_of error)

-- whether the text is a URL, and the reason where it is none
abbrev pub url_answer : List ℕ → Option (Result (Unit {0}) InvalidUrl)
url_answer text = answer_of (parse_url None text)
