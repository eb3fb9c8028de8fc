-- Templates: texts with places for what was found, as `length is lower than {min}`.
use Rattle.std.specs.Prelude.{◌≡◌, ◌≢◌, ◌==◌, ℕ, List, [], ◌∷◌, ◌++◌, Bool, true, false, not, ◌&&◌, ◌||◌, IsTrue, All, Option, Some, None, cond, bytes_eq, codes}
use Rattle.std.specs.List.{flat_map, list_any, list_all}
use Rattle.garde_i18n.specs.Datum.{Datum, named}
use Rattle.garde_i18n.specs.DatumOf.{value_text}
use Rattle.garde_catalog.specs.declared.template.Seen.{Seen}
use Rattle.garde_catalog.specs.declared.template.Put.{Put}
use Rattle.garde_catalog.specs.declared.template.TemplateFault.{TemplateFault}
use Rattle.garde_catalog.specs.declared.template.TemplateFault.TheVariants as faults
use Rattle.garde_catalog.specs.declared.template.Put.TheVariants as puts

-- a piece of a template: a byte, or the place of the parameter of this name
pub data Piece : Type 0 where
  byte : ℕ → Piece
  place : List ℕ → Piece

-- a byte that is no brace
abbrev pub IsPlainByte : ℕ → Type 0
IsPlainByte b = (b ≢ 123) × (b ≢ 125)

-- a text with no brace
abbrev pub IsPlain : List ℕ → Type 0
IsPlain text = All IsPlainByte text

-- the byte is no brace, or the name of the place has none
abbrev pub IsPlainPiece : Piece → Type 0
IsPlainPiece (byte b) = IsPlainByte b
IsPlainPiece (place name) = IsPlain name

-- a piece, with this in the place of each name
abbrev pub piece_text : (List ℕ → List ℕ) → Piece → List ℕ
piece_text value (byte b) = b ∷ []
piece_text value (place name) = value name

-- a template with this in the place of each name
abbrev pub filled : (List ℕ → List ℕ) → List Piece → List ℕ
filled value pieces = flat_map (piece_text value) pieces

-- a place, as a text writes it
abbrev pub in_braces : List ℕ → List ℕ
in_braces name = 123 ∷ (name ++ (125 ∷ []))

-- the text that a template is written as
abbrev pub written : List Piece → List ℕ
written pieces = filled in_braces pieces

-- the pieces of what is left of a text: outside of a place, or in one whose name begins so
abbrev pub reading : Option (List ℕ) → List ℕ → List Piece
reading None [] = []
reading None (b ∷ text) = cond (b == 123) (reading (Some []) text) (byte b ∷ reading None text)
reading (Some name) [] = []
reading (Some name) (b ∷ text) = cond (b == 125) (place name ∷ reading None text) (reading (Some (name ++ (b ∷ []))) text)

-- the pieces of a text
unfoldable pub pieces_of : List ℕ → List Piece
pieces_of text = reading None text

-- the name is that of a parameter, where the two have these names: one with no name is none
abbrev pub is_param : List ℕ → List ℕ → List ℕ → Bool
is_param first second name = not (bytes_eq name []) && (bytes_eq name first || bytes_eq name second)

-- the piece is no place of another name
abbrev pub is_known : List ℕ → List ℕ → Piece → Bool
is_known first second (byte b) = true
is_known first second (place name) = is_param first second name

-- the piece is the place of this name
abbrev pub is_place : List ℕ → Piece → Bool
is_place wanted (byte b) = false
is_place wanted (place name) = bytes_eq name wanted

-- a parameter has a place, if there is such a parameter
abbrev pub has_place : List ℕ → List Piece → Bool
has_place wanted pieces = bytes_eq wanted [] || list_any (is_place wanted) pieces

-- the pieces are those of the text, whose two parameters have these names: one with no name is none
pub record IsTemplate (text first second : List ℕ) (pieces : List Piece) : Type 0 where
  -- the text is the pieces, each place written as its name in braces
  pub same : written pieces ≡ text
  -- and there are no other braces
  pub plain : All IsPlainPiece pieces
  -- each place is that of a parameter
  pub known : IsTrue (list_all (is_known first second) pieces)
  -- each parameter has a place
  pub has_first : IsTrue (has_place first pieces)
  pub has_second : IsTrue (has_place second pieces)

-- each brace of the text is one of a place, whatever names its parameters have
abbrev pub HasPlaces : List ℕ → Type 0
HasPlaces text = (written (pieces_of text) ≡ text) × All IsPlainPiece (pieces_of text)

-- the same, as a test
abbrev pub is_plain_byte : ℕ → Bool
is_plain_byte b = not (b == 123) && not (b == 125)

abbrev pub is_plain_piece : Piece → Bool
is_plain_piece (byte b) = is_plain_byte b
is_plain_piece (place name) = list_all is_plain_byte name

abbrev pub has_places : List ℕ → Bool
has_places text = bytes_eq (written (pieces_of text)) text && list_all is_plain_piece (pieces_of text)

-- why a text is no template of parameters of these names, if it is none
abbrev pub template_fault : List ℕ → List ℕ → List ℕ → Option TemplateFault
template_fault first second text =
    cond (not (has_places text)) (Some faults.StrayBrace)
    (cond (not (list_all (is_known first second) (pieces_of text))) (Some faults.UnknownPlace)
    (cond (has_place first (pieces_of text) && has_place second (pieces_of text)) None (Some faults.MissingPlace)))

-- its code
abbrev pub fault_code : TemplateFault → List ℕ
fault_code faults.UnknownPlace = codes "template_place_unknown"
fault_code faults.MissingPlace = codes "template_place_missing"
fault_code faults.StrayBrace = codes "template_brace_stray"

-- the same in words
abbrev pub fault_words : TemplateFault → List ℕ
fault_words faults.UnknownPlace = codes "has a name in braces that is no parameter of this text"
fault_words faults.MissingPlace = codes "lacks a parameter in braces"
fault_words faults.StrayBrace = codes "has a brace that does not close or does not open"

-- what a handler gives its text: the code, which has no parameter, with the words in English
abbrev pub fault_datum : TemplateFault → Datum
fault_datum fault = named (fault_code fault, []) (fault_words fault)

-- the text is no template of parameters of these names
abbrev pub IsRefused : List ℕ → List ℕ → List ℕ → Type 0
IsRefused text first second = (pieces : List Piece) → ¬ (IsTemplate text first second pieces)

-- a text in four: words, the name of its first place, and the text behind that
pub record IsCut (text words name after : List ℕ) : Type 0 where
  pub whole : text ≡ words ++ (123 ∷ (name ++ (125 ∷ after)))
  pub words_plain : IsPlain words
  pub name_plain : IsPlain name

-- what was seen of the places of a text, where this is left of it
pub record IsSeen (first second text rest : List ℕ) (seen : Seen) : Type 0 where
  pub known : list_all (is_known first second) (pieces_of text) ≡ (seen.all_known && list_all (is_known first second) (pieces_of rest))
  pub first_seen : has_place first (pieces_of text) ≡ (seen.has_first || list_any (is_place first) (pieces_of rest))
  pub second_seen : has_place second (pieces_of text) ≡ (seen.has_second || list_any (is_place second) (pieces_of rest))

-- all of the places of a text were seen
pub record IsAllSeen (first second text : List ℕ) (seen : Seen) : Type 0 where
  pub known : seen.all_known ≡ list_all (is_known first second) (pieces_of text)
  pub first_seen : seen.has_first ≡ has_place first (pieces_of text)
  pub second_seen : seen.has_second ≡ has_place second (pieces_of text)

-- the first of two values where the place has the name of the first parameter, and the other one elsewhere
abbrev pub at_name : List ℕ → List ℕ → List ℕ → List ℕ → List ℕ
at_name first value other name = cond (bytes_eq name first) value other

-- what is put in the place of this name
abbrev pub value_at : Put → List ℕ → List ℕ
value_at (puts.One value) name = value_text value
value_at (puts.Two first value other) name = at_name first.now (value_text value) (value_text other) name
