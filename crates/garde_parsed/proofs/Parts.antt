-- Values that are made of parts.
use Rattle.std.proofs.Common.{◌≡◌, ◌↔◌, ℕ, List, Bool, true, false, Option, Some, None, Result, Ok, Err, refl, sym, ap, ◌∙◌}
use Rattle.std.specs.Prelude.{option_and_then}
use Rattle.std.proofs.lemmas.Option.{none-some}
use Rattle.std.proofs.lemmas.Bool.{true≢false}
use Rattle.std.specs.Result.{result_map_both, result_ok}
use Rattle.garde_parsed.specs.Parts.{ok_of, where_true, value_of, PartsLaw}
use Rattle.garde_parsed.proofs.Options.{in_some}

module _ {P A : Type 0} where
  -- where the test holds, and each proof makes this value
  pub made : (test : Bool) (shows : test ≡ true → P) (make : P → A) (a : A) → test ≡ true → ((p : P) → make p ≡ a) → where_true test shows make ≡ Some a
  made true shows make a is same = ap Some (same (shows refl))
  made false shows make a is same = absurd (true≢false (sym is))

  -- what was made was made of a proof
  pub made_of : (test : Bool) (shows : test ≡ true → P) (make : P → A) (a : A) → where_true test shows make ≡ Some a → (p : P) × (make p ≡ a)
  made_of true shows make a is = (shows refl, in_some is)
  made_of false shows make a is = absurd (none-some a is)

module _ {A B E : Type 0} (from : B → Option A) (parts : A → B) (parse : List ℕ → Result B E) where
  -- a value has its parts, and what is made of parts has these
  pub parts_law : ((a : A) → from (parts a) ≡ Some a) → ((b : B) (a : A) → from b ≡ Some a → parts a ≡ b) → PartsLaw from parts parse
  parts_law back these text a = by (parse text)
    where
      by : (r : Result B E) → (option_and_then from (ok_of r) ≡ Some a) ↔ (r ≡ Ok (parts a))
      by (Ok b) = (λ is. ap Ok (sym (these b a is)), λ is. ap (λ r. option_and_then from (ok_of r)) is ∙ back a)
      by (Err e) = (λ is. absurd (none-some a is), λ is. absurd (none-some a (ap (λ r. ok_of r) (ap (result_map_both (λ _. a) (λ e. e)) is))))

  -- the value that a parser returned, which shows these parts
  pub parsed : ((a : A) → from (parts a) ≡ Some a) → {F : Type 0} (text : List ℕ) (r : Result A F) (like : F → E) → result_map_both parts like r ≡ parse text → result_ok r ≡ value_of from parse text
  parsed back text (Ok a) like is = sym (back a) ∙ ap (λ r. option_and_then from (ok_of r)) is
  parsed back text (Err e) like is = ap (λ r. option_and_then from (ok_of r)) is
