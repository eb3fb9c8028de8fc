-- The colons of a text.
use Rattle.std.proofs.Common.{◌≡◌, ℕ, ◌+◌, ◌<◌, ◌≤◌, Bool, true, false, List, length, drop, get_or, refl, sym, subst}
use Rattle.std.proofs.lemmas.List.{drop_all, drop_more}
use Rattle.std.specs.Prelude.{◌==◌, ◌||◌}
use Rattle.garde_parsed.specs.Addresses.{has_colon}

one : (b c : Bool) → b ≡ true → true ≡ (b || c)
one b c e = cc

other : (b c : Bool) → b ≡ false → c ≡ (b || c)
other b c e = cc

pub colon_at : (cs : List ℕ) (i : ℕ) → i < length cs → (get_or cs i 0 == 58) ≡ true → true ≡ has_colon (drop i cs)
unfolding has_colon
colon_at cs i some is = subst (λ z. true ≡ has_colon z) (sym (drop_more cs i 0 some)) (one (get_or cs i 0 == 58) (has_colon (drop (i + 1) cs)) is)

pub no_colon_at : (cs : List ℕ) (i : ℕ) → i < length cs → (get_or cs i 0 == 58) ≡ false → has_colon (drop (i + 1) cs) ≡ has_colon (drop i cs)
unfolding has_colon
no_colon_at cs i some is = subst (λ z. has_colon (drop (i + 1) cs) ≡ has_colon z) (sym (drop_more cs i 0 some)) (other (get_or cs i 0 == 58) (has_colon (drop (i + 1) cs)) is)

pub none_left : (cs : List ℕ) (i : ℕ) → length cs ≤ i → false ≡ has_colon (drop i cs)
unfolding has_colon
none_left cs i none = subst (λ z. false ≡ has_colon z) (sym (drop_all i cs none)) refl
