-- The messages that a table has texts for: their codes, and the names of their parameters.
use Rattle.std.specs.Prelude.{ℕ, List, [], ◌∷◌, bytes_eq, codes, cond, get_or, suc}
use Rattle.std.specs.Borrow.{Bor}

-- a message: its code, and the names of its two parameters: one with no name is none
abbrev pub Message : Type 0
Message = List ℕ × List ℕ × List ℕ

-- the same in a table of the code
abbrev pub Stated : Type 0
Stated = Bor (List ℕ) × Bor (List ℕ) × Bor (List ℕ)

abbrev pub message_of : Stated → Message
message_of message = (message.0.now, message.1.now, message.2.now)

-- the messages of the library
abbrev pub LIBRARY : List Message
LIBRARY =
    (codes "length_lower_than", codes "min", []) ∷
    (codes "length_greater_than", codes "max", []) ∷
    (codes "range_lower_than", codes "min", []) ∷
    (codes "range_greater_than", codes "max", []) ∷
    (codes "credit_card_invalid", codes "reason", []) ∷
    (codes "pattern_no_match", codes "pattern", []) ∷
    (codes "contains_missing", codes "pattern", []) ∷
    (codes "url_invalid", codes "reason", []) ∷
    (codes "prefix_missing", codes "pattern", []) ∷
    (codes "suffix_missing", codes "pattern", []) ∷
    (codes "phone_number_invalid", codes "reason", []) ∷
    (codes "ip_invalid", codes "kind", []) ∷
    (codes "matches_field_mismatch", codes "field", []) ∷
    (codes "ascii_invalid", [], []) ∷
    (codes "alphanumeric_invalid", [], []) ∷
    (codes "required_not_set", [], []) ∷
    (codes "card_format", [], []) ∷
    (codes "card_length", [], []) ∷
    (codes "card_luhn", [], []) ∷
    (codes "card_type", [], []) ∷
    (codes "card_other", [], []) ∷
    (codes "url_empty_host", [], []) ∷
    (codes "url_idna", [], []) ∷
    (codes "url_port", [], []) ∷
    (codes "url_ipv4", [], []) ∷
    (codes "url_ipv6", [], []) ∷
    (codes "url_domain_character", [], []) ∷
    (codes "url_relative", [], []) ∷
    (codes "url_relative_to_no_base", [], []) ∷
    (codes "url_set_host", [], []) ∷
    (codes "url_overflow", [], []) ∷
    (codes "url_other", [], []) ∷
    (codes "phone_no_such_number", [], []) ∷
    (codes "phone_not_a_number", [], []) ∷
    (codes "phone_country_code", [], []) ∷
    (codes "phone_too_short_after_idd", [], []) ∷
    (codes "phone_too_short_nsn", [], []) ∷
    (codes "phone_too_long", [], []) ∷
    (codes "phone_malformed", [], []) ∷
    (codes "phone_other", [], []) ∷
    (codes "not_text", [], []) ∷
    (codes "not_whole", [], []) ∷
    (codes "not_boolean", [], []) ∷
    (codes "not_null", [], []) ∷
    (codes "not_list", [], []) ∷
    (codes "not_object", [], []) ∷
    (codes "not_one_member", [], []) ∷
    (codes "not_character", [], []) ∷
    (codes "not_date", [], []) ∷
    (codes "not_time", [], []) ∷
    (codes "not_date_time", [], []) ∷
    (codes "not_timestamp", [], []) ∷
    (codes "not_ipv4", [], []) ∷
    (codes "not_ipv6", [], []) ∷
    (codes "not_uuid", [], []) ∷
    (codes "not_version", [], []) ∷
    (codes "not_url", [], []) ∷
    (codes "out_of_range", codes "least", codes "greatest") ∷
    (codes "member_missing", [], []) ∷
    (codes "member_repeated", [], []) ∷
    (codes "member_unknown", [], []) ∷
    (codes "value_unknown", [], []) ∷
    (codes "row_length", [], []) ∷
    (codes "not_utf8", codes "line", codes "column") ∷
    (codes "not_json", codes "line", codes "column") ∷
    (codes "nested_too_deep", codes "line", codes "column") ∷
    (codes "lone_surrogate", codes "line", codes "column") ∷
    (codes "text_too_long", [], []) ∷
    (codes "multiple_of_mismatch", codes "divisor", []) ∷
    []

-- the code of the message in a place
abbrev pub code_at : ℕ → List ℕ
code_at place = (get_or LIBRARY place ([], [], [])).0

abbrev pub place_in : List Message → List ℕ → ℕ
place_in [] code = 0
place_in (message ∷ messages) code = cond (bytes_eq message.0 code) 0 (suc (place_in messages code))

-- the place of the message of a code
abbrev pub place_of : List ℕ → ℕ
place_of code = place_in LIBRARY code
