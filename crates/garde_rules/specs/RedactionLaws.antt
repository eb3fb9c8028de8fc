-- What each rule finds is one of the faults that it may find.
use Rattle.std.specs.Prelude.{ℕ, Bool, true, false, Option, Some, None, Result, Ok, Err, List, [], ◌∷◌, option_map, refl}
use Rattle.std.proofs.Common.{arith}
use Rattle.garde_i18n.specs.Datum.{Datum, range_lower, range_greater}
use Rattle.garde_i18n.specs.declared.reasons.InvalidUrl.{InvalidUrl}
use Rattle.garde_i18n.specs.declared.reasons.InvalidUrl.TheVariants as urls
use Rattle.garde_i18n.specs.declared.reasons.InvalidCreditCard.{InvalidCreditCard}
use Rattle.garde_i18n.specs.declared.reasons.InvalidCreditCard.TheVariants as cards
use Rattle.garde_i18n.specs.declared.reasons.InvalidPhoneNumber.{InvalidPhoneNumber}
use Rattle.garde_i18n.specs.declared.reasons.InvalidPhoneNumber.TheVariants as phones
use Rattle.garde_engines.specs.Applies.{Fault, rule, own}
use Rattle.garde_engines.specs.Bounds.{length_fault}
use Rattle.garde_rules.specs.Holds.{unless}
use Rattle.garde_rules.specs.Range.{range_fault, range_found, beyond_answer, OutOfBounds, Lower, Upper}
use Rattle.garde_rules.specs.Reasons.{card_fault, phone_fault, url_fault}
use Rattle.garde_rules.specs.Redaction.{IsAmong, one_fault, own_fault, length_faults, range_faults, card_faults, phone_faults, url_faults}

-- a rule that holds or does not
pub unless_among : (datum : Datum) (holds : Bool) → IsAmong (one_fault datum) (unless holds datum)
unless_among datum true = tt
unless_among datum false = (0, omega arith, refl)

-- a rule with a message of its own in place of the handler's
pub message_among : (message : List ℕ) (found : Option Fault) → IsAmong (own_fault message) (option_map (λ _. own message) found)
message_among message None = tt
message_among message (Some f) = (0, omega arith, refl)

pub length_among : (min max : ℕ) (answer : Result (Unit {0}) OutOfBounds) → IsAmong (length_faults min max) (length_fault min max answer)
length_among min max (Ok x) = tt
length_among min max (Err Lower) = (0, omega arith, refl)
length_among min max (Err Upper) = (1, omega arith, refl)

lower_among : (min max : List ℕ) (is_below : Bool) → IsAmong (one_fault (range_lower min)) (range_fault min max (beyond_answer is_below false))
lower_among min max true = (0, omega arith, refl)
lower_among min max false = tt

upper_among : (min max : List ℕ) (is_above : Bool) → IsAmong (one_fault (range_greater max)) (range_fault min max (beyond_answer false is_above))
upper_among min max true = (0, omega arith, refl)
upper_among min max false = tt

bounds_among : (min max : List ℕ) (is_below is_above : Bool) → IsAmong (rule (range_lower min) ∷ one_fault (range_greater max)) (range_fault min max (beyond_answer is_below is_above))
bounds_among min max true is_above = (0, omega arith, refl)
bounds_among min max false true = (1, omega arith, refl)
bounds_among min max false false = tt

pub range_among : {N V : Type 0} (below above : N → V → Bool) (text : N → List ℕ) (min max : Option N) (v : V) → IsAmong (range_faults text min max) (range_found below above text min max v)
range_among below above text None None v = tt
range_among below above text None (Some max) v = upper_among [] (text max) (above max v)
range_among below above text (Some min) None v = lower_among (text min) [] (below min v)
range_among below above text (Some min) (Some max) v = bounds_among (text min) (text max) (below min v) (above max v)

pub card_among : (answer : Result (Unit {0}) InvalidCreditCard) → IsAmong card_faults (card_fault answer)
card_among (Ok x) = tt
card_among (Err cards.InvalidFormat) = (0, omega arith, refl)
card_among (Err cards.InvalidLength) = (1, omega arith, refl)
card_among (Err cards.InvalidLuhn) = (2, omega arith, refl)
card_among (Err cards.UnknownType) = (3, omega arith, refl)
card_among (Err cards.Other) = (4, omega arith, refl)

pub phone_among : (answer : Result (Unit {0}) InvalidPhoneNumber) → IsAmong phone_faults (phone_fault answer)
phone_among (Ok x) = tt
phone_among (Err phones.Invalid) = (0, omega arith, refl)
phone_among (Err phones.NotANumber) = (1, omega arith, refl)
phone_among (Err phones.InvalidCountryCode) = (2, omega arith, refl)
phone_among (Err phones.TooShortAfterIdd) = (3, omega arith, refl)
phone_among (Err phones.TooShortNsn) = (4, omega arith, refl)
phone_among (Err phones.TooLong) = (5, omega arith, refl)
phone_among (Err phones.MalformedInteger) = (6, omega arith, refl)
phone_among (Err phones.Other) = (7, omega arith, refl)

pub url_among : (answer : Result (Unit {0}) InvalidUrl) → IsAmong url_faults (url_fault answer)
url_among (Ok x) = tt
url_among (Err urls.EmptyHost) = (0, omega arith, refl)
url_among (Err urls.IdnaError) = (1, omega arith, refl)
url_among (Err urls.InvalidPort) = (2, omega arith, refl)
url_among (Err urls.InvalidIpv4Address) = (3, omega arith, refl)
url_among (Err urls.InvalidIpv6Address) = (4, omega arith, refl)
url_among (Err urls.InvalidDomainCharacter) = (5, omega arith, refl)
url_among (Err urls.RelativeUrlWithoutBase) = (6, omega arith, refl)
url_among (Err urls.RelativeUrlWithCannotBeABaseBase) = (7, omega arith, refl)
url_among (Err urls.SetHostOnCannotBeABaseUrl) = (8, omega arith, refl)
url_among (Err urls.Overflow) = (9, omega arith, refl)
url_among (Err urls.Other) = (10, omega arith, refl)
