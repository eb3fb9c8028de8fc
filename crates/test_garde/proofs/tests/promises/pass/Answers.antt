use Rattle.std.proofs.Common.{◌≡◌, ℕ, ◌+◌, ◌≤◌, true, List, length, Option, None, Some, Ok, ap, arith}
use Rattle.std.specs.Prelude.{string_bytes, IfSome}
use Rattle.garde_i18n.specs.Datum.{not_ascii}
use Rattle.test_garde.specs.declared.tests.user.User.{User}
use Rattle.garde.specs.Words.{bounds_answer, is_ascii_text, length_fault, unless}
use Rattle.garde.specs.Fields.{◌and◌, ascii, between, bytes, field, if_some, is}
use Rattle.garde.specs.Answers.{NeedsNoMemory}
use Rattle.garde.proofs.Quiet.{no_memory_found, no_memory_and, no_memory_under, no_memory_optional, no_memory_items}
use Rattle.test_garde.proofs.tests.promises.pass.Goals as goal

abbrev name : User → List ℕ
name user = string_bytes user.username

named : (text : List ℕ) {depth : ℕ} → depth + 1 ≤ 8 → is_ascii_text text ≡ true → bounds_answer 3 25 (length text) ≡ Ok tt → NeedsNoMemory (field "username" (is (ascii text) and is (bytes (between 3 25) text))) depth
named text most is within =
    no_memory_under _ _ (no_memory_and _ _ (no_memory_found _ (ap (λ b. unless b not_ascii) is) most) (no_memory_found _ (ap (length_fault 3 25) within) most))

some_named : {A : Type 0} (text : A → List ℕ) (v : Option A) → IfSome v (λ x. (is_ascii_text (text x) ≡ true) × (bounds_answer 3 25 (length (text x)) ≡ Ok tt)) → NeedsNoMemory (if_some (λ x. field "username" (is (ascii (text x)) and is (bytes (between 3 25) (text x)))) v) 1
some_named text None is = no_memory_optional _ None (omega arith) tt
some_named text (Some x) is = no_memory_optional _ (Some x) (omega arith) (named (text x) (omega arith) is.0 is.1)

pub returns : goal.returns
returns c = c.validate.ensures.sure (λ ctx default. no_memory_items _ _ (omega arith) (λ k d within. some_named name _ (c.requires k d within)))
