-- Why a text is no URL.
pub use Rattle.garde_i18n.specs.declared.reasons.InvalidUrl.{InvalidUrl}
pub use Rattle.garde_i18n.specs.declared.reasons.InvalidUrl.TheVariants.{EmptyHost, IdnaError, InvalidPort, InvalidIpv4Address, InvalidIpv6Address, InvalidDomainCharacter, RelativeUrlWithoutBase, RelativeUrlWithCannotBeABaseBase, SetHostOnCannotBeABaseUrl, Overflow, Other}
