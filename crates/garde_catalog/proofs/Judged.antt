-- Why a text is no template, as a test of it.
use Rattle.std.proofs.Common.{◌≡◌, ◌∙◌, ℕ, List, [], ◌∷◌, All, Bool, true, false, not, ◌&&◌, ◌==◌, Option, Some, None, bytes_eq, cond, refl, sym, ap, eq-eqb, ne_eqb}
use Rattle.std.specs.List.{list_all}
use Rattle.std.specs.Cmp.Derive.{both_true}
use Rattle.std.proofs.lemmas.Bool.{false_from_ne_true, false≢true}
use Rattle.std.proofs.lemmas.Option.{none-some}
use Rattle.std.proofs.lemmas.Slice.Eq.{bytes_eq-Decides}
use Rattle.std.proofs.lemmas.List.Elements.{All-cons, All-head, All-nil, All-tail}
use Rattle.garde_catalog.specs.Template.{HasPlaces, IsAllSeen, IsPlainByte, IsPlainPiece, IsRefused, IsTemplate, Piece, byte, place, has_place, has_places, is_known, is_plain_byte, is_plain_piece, pieces_of, template_fault, written}
use Rattle.garde_catalog.specs.declared.template.Seen.{Seen}
use Rattle.garde_catalog.specs.declared.template.TemplateFault.{TemplateFault}
use Rattle.garde_catalog.specs.declared.template.TemplateFault.TheVariants as faults
use Rattle.garde_catalog.proofs.Reading.{no_first, no_second, refused, unknown}

pub and_left : (a b : Bool) → (a && b) ≡ true → a ≡ true
and_left true b e = refl
and_left false b e = e

pub and_right : (a b : Bool) → (a && b) ≡ true → b ≡ true
and_right true b e = e
and_right false b e = absurd (false≢true e)

-- what holds of each is tested of each
module _ {A : Type 0} (P : A → Type 0) (p : A → Bool) where
  tested : ((x : A) → P x → p x ≡ true) → (xs : List A) → All P xs → list_all p xs ≡ true
  tested one [] all = refl
  tested one (x ∷ xs) all = both_true (one x (All-head P x xs all)) (tested one xs (All-tail P x xs all))

  pub held : ((x : A) → p x ≡ true → P x) → (xs : List A) → list_all p xs ≡ true → All P xs
  held one [] all = All-nil P
  held one (x ∷ xs) all = All-cons P x xs (one x (and_left (p x) (list_all p xs) all)) (held one xs (and_right (p x) (list_all p xs) all))

plain_byte : (b : ℕ) → IsPlainByte b → is_plain_byte b ≡ true
plain_byte b h = both_true (ap not (ne_eqb b 123 h.0)) (ap not (ne_eqb b 125 h.1))

byte_plain : (b : ℕ) → is_plain_byte b ≡ true → IsPlainByte b
byte_plain b h =
    let opens = and_left (not (b == 123)) (not (b == 125)) h in
    let closes = and_right (not (b == 123)) (not (b == 125)) h in (
      λ e. false≢true (sym (ap not (eq-eqb b 123 e)) ∙ opens),
      λ e. false≢true (sym (ap not (eq-eqb b 125 e)) ∙ closes),
    )

plain_piece : (x : Piece) → IsPlainPiece x → is_plain_piece x ≡ true
plain_piece (byte b) h = plain_byte b h
plain_piece (place name) h = tested IsPlainByte is_plain_byte plain_byte name h

piece_plain : (x : Piece) → is_plain_piece x ≡ true → IsPlainPiece x
piece_plain (byte b) h = byte_plain b h
piece_plain (place name) h = held IsPlainByte is_plain_byte byte_plain name h

-- each brace is one of a place, and the test says so
has_test : (text : List ℕ) → HasPlaces text → has_places text ≡ true
has_test text h =
    both_true ((bytes_eq-Decides (written (pieces_of text)) text).1 h.0) (tested IsPlainPiece is_plain_piece plain_piece (pieces_of text) h.1)

test_has : (text : List ℕ) → has_places text ≡ true → HasPlaces text
test_has text h = (
  (bytes_eq-Decides (written (pieces_of text)) text).0 (and_left (bytes_eq (written (pieces_of text)) text) (list_all is_plain_piece (pieces_of text)) h),
  held IsPlainPiece is_plain_piece piece_plain (pieces_of text) (and_right (bytes_eq (written (pieces_of text)) text) (list_all is_plain_piece (pieces_of text)) h),
)

-- what the tests of a text make of it
abbrev pub judge : Bool → Bool → Bool → Bool → Option TemplateFault
judge places known first second =
    cond (not places) (Some faults.StrayBrace) (cond (not known) (Some faults.UnknownPlace) (cond (first && second) None (Some faults.MissingPlace)))

module _ (text first second : List ℕ) where
  judged : (p k f s : Bool) → has_places text ≡ p → list_all (is_known first second) (pieces_of text) ≡ k → has_place first (pieces_of text) ≡ f
      → has_place second (pieces_of text) ≡ s → template_fault first second text ≡ judge p k f s
  judged p k f s ep ek ef es =
      ap (λ x. judge x (list_all (is_known first second) (pieces_of text)) (has_place first (pieces_of text)) (has_place second (pieces_of text))) ep
      ∙ ap (λ x. judge p x (has_place first (pieces_of text)) (has_place second (pieces_of text))) ek
      ∙ ap (λ x. judge p k x (has_place second (pieces_of text))) ef
      ∙ ap (λ x. judge p k f x) es

  -- a brace is none of a place
  pub is_stray : ¬ (HasPlaces text) → template_fault first second text ≡ Some faults.StrayBrace
  is_stray off = judged false _ _ _ (false_from_ne_true (has_places text) (λ e. off (test_has text e))) refl refl refl

  -- each brace is one of a place, and this was seen of the places
  pub is_seen : (seen : Seen) → HasPlaces text → IsAllSeen first second text seen → template_fault first second text ≡ judge true seen.all_known seen.has_first seen.has_second
  is_seen seen places all = judged true seen.all_known seen.has_first seen.has_second (has_test text places) (sym all.known) (sym all.first_seen) (sym all.second_seen)

  good_by : (p k f s : Bool) → has_places text ≡ p → list_all (is_known first second) (pieces_of text) ≡ k → has_place first (pieces_of text) ≡ f
      → has_place second (pieces_of text) ≡ s → judge p k f s ≡ None → IsTemplate text first second (pieces_of text)
  good_by true true true true ep ek ef es none =
      let places = test_has text ep in record { same = places.0; plain = places.1; known = ek; has_first = ef; has_second = es }
  good_by true true true false ep ek ef es none = absurd (none-some faults.MissingPlace (sym none))
  good_by true true false s ep ek ef es none = absurd (none-some faults.MissingPlace (sym none))
  good_by true false f s ep ek ef es none = absurd (none-some faults.UnknownPlace (sym none))
  good_by false k f s ep ek ef es none = absurd (none-some faults.StrayBrace (sym none))

  -- a text of which nothing is wrong is a template
  pub good : template_fault first second text ≡ None → IsTemplate text first second (pieces_of text)
  good none = good_by _ _ _ _ refl refl refl refl none

  bad_by : (p k f s : Bool) (fault : TemplateFault) → has_places text ≡ p → list_all (is_known first second) (pieces_of text) ≡ k
      → has_place first (pieces_of text) ≡ f → has_place second (pieces_of text) ≡ s → judge p k f s ≡ Some fault → IsRefused text first second
  bad_by true true true true fault ep ek ef es some = absurd (none-some fault some)
  bad_by true true true false fault ep ek ef es some = no_second text first second es
  bad_by true true false s fault ep ek ef es some = no_first text first second ef
  bad_by true false f s fault ep ek ef es some = unknown text first second ek
  bad_by false k f s fault ep ek ef es some = refused text first second (λ places. false≢true (sym ep ∙ has_test text places))

  -- and one of which something is wrong is none
  pub bad : (fault : TemplateFault) → template_fault first second text ≡ Some fault → IsRefused text first second
  bad fault some = bad_by _ _ _ _ fault refl refl refl refl some

-- what the tests say of a fault
pub judge_unknown : (k f s : Bool) → not k ≡ true → judge true k f s ≡ Some faults.UnknownPlace
judge_unknown true f s e = absurd (false≢true e)
judge_unknown false f s e = refl

pub judge_first : (k f s : Bool) → not k ≡ false → not f ≡ true → judge true k f s ≡ Some faults.MissingPlace
judge_first true true s e h = absurd (false≢true h)
judge_first true false s e h = refl
judge_first false f s e h = absurd (false≢true (sym e))

pub judge_second : (k f s : Bool) → not k ≡ false → not f ≡ false → not s ≡ true → judge true k f s ≡ Some faults.MissingPlace
judge_second true true true e h l = absurd (false≢true l)
judge_second true true false e h l = refl
judge_second true false s e h l = absurd (false≢true (sym h))
judge_second false f s e h l = absurd (false≢true (sym e))

pub judge_good : (k f s : Bool) → not k ≡ false → not f ≡ false → not s ≡ false → judge true k f s ≡ None
judge_good true true true e h l = refl
judge_good true true false e h l = absurd (false≢true (sym l))
judge_good true false s e h l = absurd (false≢true (sym h))
judge_good false f s e h l = absurd (false≢true (sym e))
