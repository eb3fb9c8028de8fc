-- Rules that say why they do not hold.
use Rattle.std.specs.Prelude.{Option, Some, None, Result, Ok, Err, unwrap_or}
use Rattle.garde_i18n.specs.Datum.{Datum, card, phone, url}
use Rattle.garde_i18n.specs.declared.reasons.InvalidCreditCard.{InvalidCreditCard}
use Rattle.garde_i18n.specs.declared.reasons.InvalidPhoneNumber.{InvalidPhoneNumber}
use Rattle.garde_i18n.specs.declared.reasons.InvalidUrl.{InvalidUrl}
use Rattle.garde_i18n.specs.declared.reasons.InvalidUrl.TheVariants.{Overflow}
use Rattle.garde_engines.specs.Applies.{Fault, rule}

-- the fault of a value that gave this answer, by the datum of its reason
abbrev pub reason_fault : {E : Type 0} → (E → Datum) → Result (Unit {0}) E → Option Fault
reason_fault datum (Ok _) = None
reason_fault datum (Err reason) = Some (rule (datum reason))

abbrev pub card_fault : Result (Unit {0}) InvalidCreditCard → Option Fault
card_fault = reason_fault card

abbrev pub phone_fault : Result (Unit {0}) InvalidPhoneNumber → Option Fault
phone_fault = reason_fault phone

abbrev pub url_fault : Result (Unit {0}) InvalidUrl → Option Fault
url_fault = reason_fault url

-- what is read of an answer that is not known, as of a URL of 4 GB: the reason `Overflow`, which no
-- rule of the library reports
abbrev pub read_answer : Option (Result (Unit {0}) InvalidUrl) → Result (Unit {0}) InvalidUrl
read_answer known = unwrap_or known (Err Overflow)

-- what an option gives, where that is known: Ok where it is none, and else what its value gives
abbrev pub option_if_known : {T E : Type 0} → (T → Option (Result (Unit {0}) E))
    → Option T → Option (Result (Unit {0}) E)
option_if_known answer None = Some (Ok tt)
option_if_known answer (Some value) = answer value

-- what an option gives: Ok where it is none, and else what its value gives
abbrev pub option_reason : {T E : Type 0} → (T → Result (Unit {0}) E)
    → Option T → Result (Unit {0}) E
option_reason answer None = Ok tt
option_reason answer (Some value) = answer value
