-- Which faults a rule may find, by the rule alone: what it finds of any value is one of these. So no message of it depends on the value
-- that the rule is asked of. An argument that is taken from another field is reported.
use Rattle.std.specs.Prelude.{ℕ, Option, Some, None, IfSome, List, [], ◌∷◌, ◌++◌, map}
use Rattle.std.specs.List.{Contains}
use Rattle.garde_i18n.specs.Datum.{Datum, length_lower, length_greater, range_lower, range_greater, card, phone, url}
use Rattle.garde_i18n.specs.declared.reasons.InvalidUrl.TheVariants as urls
use Rattle.garde_i18n.specs.declared.reasons.InvalidCreditCard.TheVariants as cards
use Rattle.garde_i18n.specs.declared.reasons.InvalidPhoneNumber.TheVariants as phones
use Rattle.garde_engines.specs.Applies.{Fault, rule, own}

-- nothing was found, or one of these faults
abbrev pub IsAmong : List Fault → Option Fault → Type 0
IsAmong faults found = IfSome found (Contains faults)

-- What a rule finds of any value is one of the faults that it may find.
abbrev pub FindsOnly : {R T : Type 0} → (R → List Fault) → (R → T → Option Fault) → Type 0
FindsOnly {R} {T} may_find finds = (asked : R) (value : T) → IsAmong (may_find asked) (finds asked value)

-- the only fault of a rule that holds or does not
abbrev pub one_fault : Datum → List Fault
one_fault datum = rule datum ∷ []

-- the only fault of a rule with a message of its own
abbrev pub own_fault : List ℕ → List Fault
own_fault message = own message ∷ []

-- the faults of a length between two numbers
abbrev pub length_faults : ℕ → ℕ → List Fault
length_faults min max = rule (length_lower min) ∷ rule (length_greater max) ∷ []

-- the fault of a bound, where it is given
abbrev pub bound_faults : {N : Type 0} → (List ℕ → Datum) → (N → List ℕ) → Option N → List Fault
bound_faults datum text None = []
bound_faults datum text (Some bound) = one_fault (datum (text bound))

-- the faults of a range whose bounds are given or missing, and have these texts
abbrev pub range_faults : {N : Type 0} → (N → List ℕ) → Option N → Option N → List Fault
range_faults text min max = bound_faults range_lower text min ++ bound_faults range_greater text max

-- the faults of a card number, of a phone number and of a URL: one for each reason
abbrev pub card_faults : List Fault
card_faults = map (λ reason. rule (card reason)) (cards.InvalidFormat ∷ cards.InvalidLength ∷ cards.InvalidLuhn ∷ cards.UnknownType ∷ cards.Other ∷ [])

abbrev pub phone_faults : List Fault
phone_faults = map (λ reason. rule (phone reason)) (
    phones.Invalid ∷ phones.NotANumber ∷ phones.InvalidCountryCode ∷ phones.TooShortAfterIdd ∷ phones.TooShortNsn
    ∷ phones.TooLong ∷ phones.MalformedInteger ∷ phones.Other ∷ [])

abbrev pub url_faults : List Fault
url_faults = map (λ reason. rule (url reason)) (
    urls.EmptyHost ∷ urls.IdnaError ∷ urls.InvalidPort ∷ urls.InvalidIpv4Address ∷ urls.InvalidIpv6Address
    ∷ urls.InvalidDomainCharacter ∷ urls.RelativeUrlWithoutBase ∷ urls.RelativeUrlWithCannotBeABaseBase
    ∷ urls.SetHostOnCannotBeABaseUrl ∷ urls.Overflow ∷ urls.Other ∷ [])
