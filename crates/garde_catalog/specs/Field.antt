-- The ranges of a field `Accept-Language`, each with its weight (RFC 9110, section 12.5.4; RFC 4647, section 2.1).
use Rattle.std.specs.Prelude.{ℕ, ◌+◌, ◌*◌, ◌-◌, Bool, true, false, not, ◌&&◌, ◌||◌, ◌==◌, List, [], ◌∷◌, ◌++◌, reverse, Option, Some, None, if◌then◌else◌, nat_lt, nat_le}
use Rattle.garde_catalog.specs.declared.lookup.Range.{Range}

-- a range of the field, and its weight in thousandths
abbrev pub Want : Type 0
Want = List ℕ × ℕ

-- the same of a range that was read
abbrev pub want_of : Range → Want
want_of range = (range.tag.now, range.weight)

abbrev pub want_from : Option Range → List Want
want_from None = []
want_from (Some range) = want_of range ∷ []

-- a space or a tab
abbrev pub is_space : ℕ → Bool
is_space b = (b == 32) || (b == 9)

-- the bytes from the first that is no white space
abbrev pub skip_space : List ℕ → List ℕ
skip_space [] = []
skip_space (b ∷ bytes) = if is_space b then skip_space bytes else b ∷ bytes

-- the bytes without the white space at both ends
unfoldable pub trim : List ℕ → List ℕ
trim bytes = reverse (skip_space (reverse (skip_space bytes)))

-- the bytes before the first separator, and those after it if there is one
unfoldable pub split_once : ℕ → List ℕ → List ℕ × Option (List ℕ)
split_once separator [] = ([], None)
split_once separator (b ∷ bytes) =
    let later = split_once separator bytes in
    if b == separator then ([], Some bytes) else (b ∷ later.0, later.1)

-- the value of a digit
abbrev pub digit : ℕ → Option ℕ
digit b = if nat_le 48 b && nat_le b 57 then Some (b - 48) else None

-- a number of thousandths, of its four digits: 1000 at most
abbrev pub in_thousandths : Option ℕ → Option ℕ → Option ℕ → Option ℕ → Option ℕ
in_thousandths (Some whole) (Some a) (Some b) (Some c) =
    let weight = whole * 1000 + (a * 100 + (b * 10 + c)) in
    if nat_le weight 1000 then Some weight else None
in_thousandths _ _ _ _ = None

abbrev pub thousandths : ℕ → ℕ → ℕ → ℕ → Option ℕ
thousandths whole a b c = in_thousandths (digit whole) (digit a) (digit b) (digit c)

-- the digits behind a point, where those that are missing are 0
abbrev pub behind_point : ℕ → List ℕ → Option ℕ
behind_point whole [] = thousandths whole 48 48 48
behind_point whole (a ∷ []) = thousandths whole a 48 48
behind_point whole (a ∷ b ∷ []) = thousandths whole a b 48
behind_point whole (a ∷ b ∷ c ∷ []) = thousandths whole a b c
behind_point whole (a ∷ b ∷ c ∷ d ∷ more) = None

-- a weight: `0` or `1`, and perhaps a point and up to three digits
abbrev pub weight_of : List ℕ → Option ℕ
weight_of [] = None
weight_of (whole ∷ []) = thousandths whole 48 48 48
weight_of (whole ∷ point ∷ digits) = if point == 46 then behind_point whole digits else None

-- what stands behind the semicolon: `q=` and a weight. Without one, the weight is 1
abbrev pub named_weight : List ℕ → Option ℕ
named_weight [] = None
named_weight (q ∷ []) = None
named_weight (q ∷ equals ∷ value) = if ((q == 113) || (q == 81)) && (equals == 61) then weight_of value else None

abbrev pub parameter_weight : Option (List ℕ) → Option ℕ
parameter_weight None = Some 1000
parameter_weight (Some parameter) = named_weight (trim parameter)

abbrev pub is_letter : ℕ → Bool
is_letter b = (nat_le 65 b && nat_le b 90) || (nat_le 97 b && nat_le b 122)

abbrev pub is_digit : ℕ → Bool
is_digit b = nat_le 48 b && nat_le b 57

-- a byte of a subtag: the first subtag is of letters alone
abbrev pub is_of_subtag : Bool → ℕ → Bool
is_of_subtag first b = is_letter b || (is_digit b && not first)

-- subtags of one to eight bytes with `-` between them, of which the first has so many bytes already
abbrev pub are_subtags : Bool → ℕ → List ℕ → Bool
are_subtags first len [] = nat_lt 0 len
are_subtags first len (b ∷ bytes) =
    if b == 45 then (nat_lt 0 len && are_subtags false 0 bytes)
    else ((nat_lt len 8 && is_of_subtag first b) && are_subtags first (len + 1) bytes)

-- a range of languages that is not `*`, which asks for none in particular
abbrev pub is_range : List ℕ → Bool
is_range tag = are_subtags true 0 tag

abbrev pub wanted : List ℕ → Option ℕ → List Want
wanted tag None = []
wanted tag (Some weight) = if is_range tag then (tag, weight) ∷ [] else []

-- the range of an element and its weight, and nothing of one that is not of the grammar
unfoldable pub want_in : List ℕ → List Want
want_in element =
    let parts = split_once 59 element in
    wanted (trim parts.0) (parameter_weight parts.1)

-- the byte joins the first piece
abbrev pub onto_first : ℕ → List (List ℕ) → List (List ℕ)
onto_first b [] = (b ∷ []) ∷ []
onto_first b (piece ∷ pieces) = (b ∷ piece) ∷ pieces

-- the elements of the field, between its commas
unfoldable pub elements : List ℕ → List (List ℕ)
elements [] = [] ∷ []
elements (b ∷ bytes) = if b == 44 then [] ∷ elements bytes else onto_first b (elements bytes)

abbrev pub wants_of : List (List ℕ) → List Want
wants_of [] = []
wants_of (element ∷ more) = want_in element ++ wants_of more

-- the ranges that the field asks for
abbrev pub wants_in : List ℕ → List Want
wants_in field = wants_of (elements field)

-- those of what is left of the field
abbrev pub wants_left : Option (List ℕ) → List Want
wants_left None = []
wants_left (Some rest) = wants_in rest
