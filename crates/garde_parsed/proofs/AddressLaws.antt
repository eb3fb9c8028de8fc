-- The readers of whole texts agree with the grammar of addresses.
use Rattle.std.proofs.Common.{◌≡◌, ◌↔◌, ℕ, List, refl, [], ◌∷◌, length, Option, Some, None, Result, Ok, Err, option_map, sym, subst, ◌∙◌, append-nil, ne_eqb, arith, lit≤}
use Rattle.std.proofs.lemmas.Option.{none-some}
use Rattle.std.specs.Result.{result_ok}
use Rattle.garde_parsed.proofs.Options.{in_some, none_of}
use Rattle.std.specs.Net.Grammar.{IsDotted, IsColonHex, IsIpv4Text, IsIpv6Text, Parses}
use Rattle.std.specs.Net.Reader.{Read, whole_value, read_ipv4, read_ipv6}
use Rattle.std.proofs.NetLemmas.Ipv4.{read_ipv4_sound, read_ipv4_complete}
use Rattle.std.proofs.NetLemmas.Ipv6.{read_ipv6_sound, read_ipv6_complete, EndsGroups-nil}
use Rattle.garde_parsed.specs.Addresses.{Ipv4Law, Ipv6Law}

-- a text spells what the reader made of the whole of it
module _ {A B : Type 0} (make : B → A) (Spells : A → Type 0) (read : Read B) (sound : (b : B) → read ≡ Some (b, []) → Spells (make b)) where
  spelled : (r : Read B) → read ≡ r → (a : A) → option_map make (whole_value r) ≡ Some a → Spells a
  spelled None is a e = absurd (none-some a e)
  spelled (Some (b, [])) is a e = subst Spells (in_some e) (sound b is)
  spelled (Some (b, c ∷ rest)) is a e = absurd (none-some a (rw (ne_eqb (length (c ∷ rest)) 0 (omega arith)) at e))

pub ipv4_law : Ipv4Law
ipv4_law text a = (
  spelled (λ octets. record { octets = octets }) (λ b. IsIpv4Text text b) (read_ipv4 text)
      (λ octets is. let (front, split, dotted) = read_ipv4_sound text octets [] is in subst (λ t. IsDotted t octets) (sym (split ∙ append-nil front)) dotted)
      (read_ipv4 text) refl a,
  λ spells. rw (rw append-nil at (read_ipv4_complete text _ [] spells (lit≤ tt))),
)

pub ipv6_law : Ipv6Law
ipv6_law text a = (
  spelled (λ segments. record { segments = segments }) (λ b. IsIpv6Text text b) (read_ipv6 text)
      (λ segments is. let (front, split, groups) = read_ipv6_sound text segments [] is in subst (λ t. IsColonHex t segments) (sym (split ∙ append-nil front)) groups)
      (read_ipv6 text) refl a,
  λ spells. rw (rw append-nil at (read_ipv6_complete text _ [] spells EndsGroups-nil)),
)

-- the address that the standard library reads in a text, where a law says what each text spells
pub read_by : {A E : Type 0} (Spells : List ℕ → A → Type 0) (of : List ℕ → Option A) → ((text : List ℕ) (a : A) → (of text ≡ Some a) ↔ Spells text a) → (text : List ℕ) (r : Result A E) → Parses Spells text r → result_ok r ≡ of text
read_by Spells of law text (Ok a) is = sym ((law text a).1 is)
read_by Spells of law text (Err e) never = none_of _ (λ a is. never a ((law text a).0 is))
