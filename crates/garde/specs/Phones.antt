-- Why a text is no phone number.
pub use Rattle.garde_i18n.specs.declared.reasons.InvalidPhoneNumber.{InvalidPhoneNumber}
pub use Rattle.garde_i18n.specs.declared.reasons.InvalidPhoneNumber.TheVariants.{Invalid, NotANumber, InvalidCountryCode, TooShortAfterIdd, TooShortNsn, TooLong, MalformedInteger, Other}
