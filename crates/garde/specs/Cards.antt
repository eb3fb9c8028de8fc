-- Why a text is no card number.
pub use Rattle.garde_i18n.specs.declared.reasons.InvalidCreditCard.{InvalidCreditCard}
pub use Rattle.garde_i18n.specs.declared.reasons.InvalidCreditCard.TheVariants.{InvalidFormat, InvalidLength, InvalidLuhn, UnknownType, Other}
