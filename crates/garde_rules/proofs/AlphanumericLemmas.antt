-- Letters and digits of ASCII are letters and numbers.
use Rattle.std.proofs.Common.{◌≡◌, ◌<◌, ℕ, List, [], ◌∷◌, true, ◌||◌, refl, sym, ap, ◌∙◌, arith}
use Rattle.std.specs.Char.{is_ascii_alphanumeric}
use Rattle.std.specs.Char.Unicode.Alphabetic as letters
use Rattle.std.specs.Char.Unicode.Numeric as numbers
use Rattle.std.specs.List.{list_all}
use Rattle.std.specs.Str.{IsAscii}
use Rattle.std.proofs.lemmas.Bool.{and_parts, and_from}
use Rattle.std.proofs.lemmas.Bool.Decides.{nat_tests}
use Rattle.std.proofs.lemmas.Str.{chars-IsAscii}
use Rattle.std.proofs.lemmas.Str.Ascii.{IsAscii-nil, IsAscii-cons}
use Rattle.std.proofs.UnicodeAscii.{is_alphanumeric_ascii}
use Rattle.ucd_derived.proofs.StdLemmas.{is_alphabetic-std}
use Rattle.ucd_category.proofs.StdLemmas.{is_numeric-std}
use Rattle.ucd_category.specs.GeneralCategory.{general_category}
use Rattle.ucd_category.specs.GeneralCategoryGroup.{in_group}
use Rattle.ucd_category.specs.declared.GeneralCategory.{GeneralCategory}
use Rattle.ucd_category.specs.declared.GeneralCategory.TheVariants.{UppercaseLetter, LowercaseLetter, TitlecaseLetter, ModifierLetter, OtherLetter, NonspacingMark, SpacingMark, EnclosingMark, DecimalNumber, LetterNumber, OtherNumber, ConnectorPunctuation, DashPunctuation, OpenPunctuation, ClosePunctuation, InitialPunctuation, FinalPunctuation, OtherPunctuation, MathSymbol, CurrencySymbol, ModifierSymbol, OtherSymbol, SpaceSeparator, LineSeparator, ParagraphSeparator, Control, Format, Surrogate, PrivateUse, Unassigned}
use Rattle.ucd_category.specs.declared.GeneralCategoryGroup.TheVariants.{Number}
use Rattle.garde_rules.specs.Text.{is_alphanumeric_char, is_alphanumeric_text, is_number_category}

number_same : (g : GeneralCategory) → in_group Number g ≡ is_number_category g
number_same UppercaseLetter = refl
number_same LowercaseLetter = refl
number_same TitlecaseLetter = refl
number_same ModifierLetter = refl
number_same OtherLetter = refl
number_same NonspacingMark = refl
number_same SpacingMark = refl
number_same EnclosingMark = refl
number_same DecimalNumber = refl
number_same LetterNumber = refl
number_same OtherNumber = refl
number_same ConnectorPunctuation = refl
number_same DashPunctuation = refl
number_same OpenPunctuation = refl
number_same ClosePunctuation = refl
number_same InitialPunctuation = refl
number_same FinalPunctuation = refl
number_same OtherPunctuation = refl
number_same MathSymbol = refl
number_same CurrencySymbol = refl
number_same ModifierSymbol = refl
number_same OtherSymbol = refl
number_same SpaceSeparator = refl
number_same LineSeparator = refl
number_same ParagraphSeparator = refl
number_same Control = refl
number_same Format = refl
number_same Surrogate = refl
number_same PrivateUse = refl
number_same Unassigned = refl

-- the standard library calls the same characters letters and numbers
alphanumeric_is : (c : ℕ) → (letters.is_alphabetic c || numbers.is_numeric c) ≡ is_alphanumeric_char c
alphanumeric_is c = λ i. is_alphabetic-std c i || (is_numeric-std c ∙ number_same (general_category c)) i

ascii_low : (b : ℕ) → is_ascii_alphanumeric b ≡ true → b < 128
ascii_low b h = grind (arith, nat_tests, h)

ascii_alphanumeric_is : (b : ℕ) → is_ascii_alphanumeric b ≡ true → is_alphanumeric_char b ≡ true
ascii_alphanumeric_is b h = sym (alphanumeric_is b) ∙ sym (is_alphanumeric_ascii b (ascii_low b h)) ∙ h

each_alphanumeric : (bs : List ℕ) → list_all is_ascii_alphanumeric bs ≡ true → list_all is_alphanumeric_char bs ≡ true
each_alphanumeric [] h = refl
each_alphanumeric (b ∷ bs) h =
    let parts = and_parts _ _ h in
    and_from _ _ (ascii_alphanumeric_is b parts.0) (each_alphanumeric bs parts.1)

each_low : (bs : List ℕ) → list_all is_ascii_alphanumeric bs ≡ true → IsAscii bs
each_low [] h = IsAscii-nil
each_low (b ∷ bs) h =
    let parts = and_parts _ _ h in
    IsAscii-cons b bs (ascii_low b parts.0) (each_low bs parts.1)

-- a text of letters and digits of ASCII is alphanumeric
pub ascii_alphanumeric_text : (bs : List ℕ) → list_all is_ascii_alphanumeric bs ≡ true → is_alphanumeric_text bs ≡ true
ascii_alphanumeric_text bs h = ap (list_all is_alphanumeric_char) (chars-IsAscii bs (each_low bs h)) ∙ each_alphanumeric bs h
