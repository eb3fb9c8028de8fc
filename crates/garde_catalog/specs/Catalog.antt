-- Catalogs: what a table of texts and a catalog have to do with each other, and the text of each datum.
use Rattle.std.specs.Prelude.{◌≡◌, ◌≤◌, ℕ, List, [], ◌∷◌, Option, Some, None, cond, bytes_eq, codes, drop, length, unwrap_or, All, ⊤, ◌⊎◌}
use Rattle.std.specs.Borrow.{Bor}
use Rattle.std.specs.List.{Any, slice_get}
use Rattle.garde_i18n.specs.CodeText.{datum_code}
use Rattle.garde_i18n.specs.Datum.{Code, Datum, card, url, phone, not_ascii, not_alphanumeric, not_set, named}
use Rattle.garde_i18n.specs.declared.reasons.InvalidUrl.{InvalidUrl}
use Rattle.garde_i18n.specs.declared.reasons.InvalidUrl.TheVariants as urls
use Rattle.garde_i18n.specs.declared.reasons.InvalidCreditCard.{InvalidCreditCard}
use Rattle.garde_i18n.specs.declared.reasons.InvalidCreditCard.TheVariants as cards
use Rattle.garde_i18n.specs.declared.reasons.InvalidPhoneNumber.{InvalidPhoneNumber}
use Rattle.garde_i18n.specs.declared.reasons.InvalidPhoneNumber.TheVariants as phones
use Rattle.garde_catalog.specs.Messages.{LIBRARY, Message, Stated, code_at, message_of, place_of}
use Rattle.garde_catalog.specs.Template.{Piece, at_name, filled, pieces_of, IsTemplate}
use Rattle.garde_catalog.specs.declared.fault.Wrong.{Wrong}
use Rattle.garde_catalog.specs.declared.fault.Wrong.TheVariants as wrongs
use Rattle.garde_catalog.specs.declared.fault.CatalogFault.{CatalogFault}
use Rattle.garde_catalog.specs.declared.fault.CatalogError.{CatalogError}
use Rattle.garde_catalog.specs.declared.fault.CatalogError.TheVariants as errors
use Rattle.garde_catalog.specs.declared.catalog.Catalog.{Catalog}
use Rattle.garde_catalog.specs.declared.catalog.Tables.{Tables}
use Rattle.garde_catalog.specs.declared.catalog.Tables.TheVariants as tables
use Rattle.garde_catalog.specs.declared.lines.Lines.{Lines}

-- a line of a table: a code and its text
abbrev pub Entry : Type 0
Entry = Bor (List ℕ) × Bor (List ℕ)

-- the texts that a table has under a code
abbrev pub texts_under : List ℕ → List Entry → List (List ℕ)
texts_under code [] = []
texts_under code (entry ∷ entries) = cond (bytes_eq entry.0.now code) (entry.1.now ∷ texts_under code entries) (texts_under code entries)

abbrev pub or_those : List (List ℕ) → List (List ℕ) → List (List ℕ)
or_those [] others = others
or_those (text ∷ texts) others = text ∷ texts

-- the texts of a code: those of the table, and where it has none, those of the other table
abbrev pub texts_of : List Entry → List Entry → List ℕ → List (List ℕ)
texts_of entries others code = or_those (texts_under code entries) (texts_under code others)

-- a message has one text there, which is a template of its parameters
abbrev pub IsGood : List Entry → List Entry → Message → Type 0
IsGood entries others message =
    (text : List ℕ) × (texts_of entries others message.0 ≡ text ∷ [])
    × ((pieces : List Piece) × IsTemplate text message.1 message.2 pieces)

-- a code has not just one text
abbrev pub HasNotOne : List (List ℕ) → Wrong → Type 0
HasNotOne texts wrongs.Missing = texts ≡ []
HasNotOne texts wrongs.Repeated = 2 ≤ length texts
HasNotOne texts (wrongs.Template fault) = ⊥

-- the same, whatever is wrong
abbrev pub HasNoOne : List (List ℕ) → Type 0
HasNoOne texts = (wrong : Wrong) × HasNotOne texts wrong

-- what is wrong with a message: it has no text, several, or one that is no template
abbrev pub IsWrong : List (List ℕ) → Message → Wrong → Type 0
IsWrong texts message wrongs.Missing = texts ≡ []
IsWrong texts message wrongs.Repeated = 2 ≤ length texts
IsWrong texts message (wrongs.Template fault) =
    (text : List ℕ) × (texts ≡ text ∷ []) × ((pieces : List Piece) → ¬ (IsTemplate text message.1 message.2 pieces))

-- the message is one of the library
abbrev pub IsListed : Message → Type 0
IsListed message = Any (λ listed. listed ≡ message) LIBRARY

-- a fault that the tables have, of a message of the library
abbrev pub IsFault : List Entry → List Entry → CatalogFault → Type 0
IsFault entries others fault = IsListed (message_of fault.message) × IsWrong (texts_of entries others fault.message.0.now) (message_of fault.message) fault.wrong

-- the tables are good: each message has one text there, which is a template of its parameters
abbrev pub AreGood : List Entry → List Entry → Type 0
AreGood entries others = All (IsGood entries others) LIBRARY

-- one of the faults is of the message
abbrev pub HasFault : List CatalogFault → Message → Type 0
HasFault faults message = Any (λ fault. message_of fault.message ≡ message) faults

-- a message is good, or one of the faults is of it
abbrev pub IsTold : List Entry → List Entry → List CatalogFault → Message → Type 0
IsTold entries others faults message = IsGood entries others message ⊎ HasFault faults message

-- this holds of each message
abbrev pub AreTold : List Entry → List Entry → List CatalogFault → Type 0
AreTold entries others faults = All (IsTold entries others faults) LIBRARY

-- why no catalog is made: the faults are true ones of messages, each message that is not good has one, and there is such a message; or memory runs out
abbrev pub IsRefusal : List Entry → List Entry → CatalogError → Type 0
IsRefusal entries others (errors.Faults faults) =
    All (IsFault entries others) faults.items × AreTold entries others faults.items × ¬ (AreGood entries others)
IsRefusal entries others errors.Memory = ⊤

-- what the error prints
abbrev pub catalog_error_text : CatalogError → List ℕ
catalog_error_text (errors.Faults faults) = codes "the table of texts has faults"
catalog_error_text errors.Memory = codes "out of memory"

-- the only text
abbrev pub only_text : List (List ℕ) → List ℕ
only_text (text ∷ []) = text
only_text _ = []

-- the text of a line, if there is one
abbrev pub text_on : Option Entry → Option (List ℕ)
text_on None = None
text_on (Some line) = Some line.1.now

-- the text of the message in a place: that of the line there, where the table is in order, and else the only one that the tables have
unfoldable pub word_in : Lines → Lines → ℕ → List ℕ
word_in lines others place =
    unwrap_or (text_on (slice_get lines.ordered.now place)) (only_text (texts_of lines.all.now others.all.now (code_at place)))

-- the texts for a rule that brings this code
abbrev pub named_in : Lines → Lines → List ℕ → List (List ℕ)
named_in lines others code = texts_of lines.named.now others.named.now code

-- a line has this code
abbrev pub HasCode : Option Entry → List ℕ → Type 0
HasCode None code = ⊥
HasCode (Some line) code = line.0.now ≡ code

-- each of these messages has its line in its place
abbrev pub IsInOrder : List Entry → List Stated → Type 0
IsInOrder entries messages = (place : ℕ) (message : Stated) → slice_get messages place ≡ Some message → HasCode (slice_get entries place) message.0.now

-- the lines are those of the table: by their places, where each message is in its own
pub record AreLines (entries : List Entry) (lines : Lines) : Type 0 where
  pub all : lines.all.now ≡ entries
  pub split : ((lines.ordered.now ≡ []) × (lines.named.now ≡ entries))
      ⊎ (((place : ℕ) (message : Message) → slice_get LIBRARY place ≡ Some message → HasCode (slice_get entries place) message.0)
      × (lines.ordered.now ≡ entries) × (lines.named.now ≡ drop 68 entries))

-- the lines of a catalog
abbrev pub lines_in : Tables → Lines
lines_in (tables.Fixed lines others) = lines
lines_in (tables.Lent lines others) = lines

abbrev pub others_in : Tables → Lines
others_in (tables.Fixed lines others) = others
others_in (tables.Lent lines others) = others

abbrev pub AreFixed : Tables → Type 0
AreFixed (tables.Fixed lines others) = ⊤
AreFixed (tables.Lent lines others) = ⊥

-- its tables last as long as the program runs
abbrev pub IsFixed : Catalog → Type 0
IsFixed catalog = AreFixed catalog.tables

-- the text of the message in a place
abbrev pub word_at : Catalog → ℕ → List ℕ
word_at catalog place = word_in (lines_in catalog.tables) (others_in catalog.tables) place

-- the text under a code
abbrev pub word_of : Catalog → List ℕ → List ℕ
word_of catalog code = only_text (texts_of (lines_in catalog.tables).all.now (others_in catalog.tables).all.now code)

-- the texts for a rule that brings this code
abbrev pub named_texts : Catalog → List ℕ → List (List ℕ)
named_texts catalog code = named_in (lines_in catalog.tables) (others_in catalog.tables) code

-- the template of the message in a place
abbrev pub template_at : Catalog → ℕ → List Piece
template_at catalog place = pieces_of (word_at catalog place)

-- the message in this place has one text in the tables, the template of the catalog is that text's, and a rule that brings its code is worded by it
pub record HasMessage (entries others : List Entry) (catalog : Catalog) (place : ℕ) (message : Message) : Type 0 where
  pub only : texts_of entries others message.0 ≡ word_at catalog place ∷ []
  pub template : IsTemplate (word_at catalog place) message.1 message.2 (template_at catalog place)
  pub named : 68 ≤ place → named_texts catalog message.0 ≡ word_at catalog place ∷ []

-- the catalog is that of the tables: it has each message
abbrev pub IsCatalog : List Entry → List Entry → Catalog → Type 0
IsCatalog entries others catalog = (place : ℕ) (message : Message) → slice_get LIBRARY place ≡ Some message → HasMessage entries others catalog place message

-- the codes of the reasons
abbrev pub url_code : InvalidUrl → List ℕ
url_code urls.EmptyHost = codes "url_empty_host"
url_code urls.IdnaError = codes "url_idna"
url_code urls.InvalidPort = codes "url_port"
url_code urls.InvalidIpv4Address = codes "url_ipv4"
url_code urls.InvalidIpv6Address = codes "url_ipv6"
url_code urls.InvalidDomainCharacter = codes "url_domain_character"
url_code urls.RelativeUrlWithoutBase = codes "url_relative"
url_code urls.RelativeUrlWithCannotBeABaseBase = codes "url_relative_to_no_base"
url_code urls.SetHostOnCannotBeABaseUrl = codes "url_set_host"
url_code urls.Overflow = codes "url_overflow"
url_code urls.Other = codes "url_other"

abbrev pub card_code : InvalidCreditCard → List ℕ
card_code cards.InvalidFormat = codes "card_format"
card_code cards.InvalidLength = codes "card_length"
card_code cards.InvalidLuhn = codes "card_luhn"
card_code cards.UnknownType = codes "card_type"
card_code cards.Other = codes "card_other"

abbrev pub phone_code : InvalidPhoneNumber → List ℕ
phone_code phones.Invalid = codes "phone_no_such_number"
phone_code phones.NotANumber = codes "phone_not_a_number"
phone_code phones.InvalidCountryCode = codes "phone_country_code"
phone_code phones.TooShortAfterIdd = codes "phone_too_short_after_idd"
phone_code phones.TooShortNsn = codes "phone_too_short_nsn"
phone_code phones.TooLong = codes "phone_too_long"
phone_code phones.MalformedInteger = codes "phone_malformed"
phone_code phones.Other = codes "phone_other"

-- the template of the message in a place with this in its places
abbrev pub put_in : Catalog → ℕ → List ℕ → List ℕ
put_in catalog place value = filled (λ _. value) (template_at catalog place)

-- the same with the value of its first parameter, which has this name, and that of the other one
abbrev pub put_both : Catalog → ℕ → List ℕ → List ℕ → List ℕ → List ℕ
put_both catalog place first value other = filled (at_name first value other) (template_at catalog place)

-- the text for a rule that brings its code: the one that the tables have, with the parameter in its places, and else English
abbrev pub named_text : List (List ℕ) → List (List ℕ × List ℕ) → List ℕ → List ℕ
named_text (text ∷ []) [] english = text
named_text (text ∷ []) ((param, value) ∷ _) english = filled (λ _. value) (pieces_of text)
named_text _ params english = english

-- its text has no place
abbrev pub IsPlaceless : Datum → Type 0
IsPlaceless not_ascii = ⊤
IsPlaceless not_alphanumeric = ⊤
IsPlaceless not_set = ⊤
IsPlaceless _ = ⊥

-- the text of the message of a code with its parameter in its places, if it has one
abbrev pub code_text : Catalog → Code → List ℕ
code_text catalog (code, []) = word_at catalog (place_of code)
code_text catalog (code, (param, value) ∷ _) = put_in catalog (place_of code) value

-- the same with the text of another message as the parameter
abbrev pub because : Catalog → List ℕ → List ℕ → List ℕ
because catalog code reason = put_in catalog (place_of code) (word_at catalog (place_of reason))

-- the text of what a rule found: that of its code
abbrev pub catalog_text : Catalog → Datum → List ℕ
catalog_text catalog (card r) = because catalog (codes "credit_card_invalid") (card_code r)
catalog_text catalog (url r) = because catalog (codes "url_invalid") (url_code r)
catalog_text catalog (phone r) = because catalog (codes "phone_number_invalid") (phone_code r)
catalog_text catalog (named code english) = named_text (named_texts catalog code.0) code.1 english
catalog_text catalog datum = code_text catalog (datum_code datum)
