-- Lemmas on a read that asks for every fault, by one that asks for the most that there may be.
use Rattle.std.proofs.Common.{◌≡◌, ℕ, ◌<◌, ◌-◌, ◌^◌, List, Option, Some, None, Err, sym, subst, arith}
use Rattle.std.specs.Prelude.{IsSomeAnd}
use Rattle.json.specs.Json.{Json, document}
use Rattle.garde_i18n.specs.Datum.{Datum}
use Rattle.garde.specs.declared.first_error.FirstError.{FirstError}
use Rattle.garde.specs.declared.first_error.FirstError.TheVariants as firsts
use Rattle.garde.specs.declared.validate_error.ValidateError.{ValidateError}
use Rattle.garde.specs.Answers.{Answers, AnswersFirst, IsFirst}
use Rattle.garde.specs.FirstError.{whole_error}
use Rattle.garde.specs.Visits.{Visits}
use Rattle.garde_schema.specs.Bytes.{AnswersBytes, OfDocument}
use Rattle.garde_schema.specs.FirstRead.{AnswersFirstBytes, IsFirstRead, whole_read_error}
use Rattle.garde_schema.specs.declared.first_read_error.FirstReadError.{FirstReadError}
use Rattle.garde_schema.specs.declared.first_read_error.FirstReadError.TheVariants.{Parse, All, First, Memory}
use Rattle.garde_schema.specs.declared.read_error.ReadError.{ReadError}

of_whole : (visits : Visits) (text : Datum → List ℕ) (error : FirstError) → AnswersFirst visits text (2 ^ 64 - 1) (Err error) → (IsFirst (Err error) → 2 ^ 64 - 1 < 2 ^ 64 - 1) → Answers visits text (Err (whole_error error))
of_whole visits text (firsts.All r) told whole = told.1
of_whole visits text (firsts.First r) told whole = let never : 2 ^ 64 - 1 < 2 ^ 64 - 1 = whole tt in absurd (omega (arith, never))
of_whole visits text firsts.Memory told whole = told

-- the error of a tree
pub answers_whole : (visits : Visits) (text : Datum → List ℕ) (error : FirstError) {all : ValidateError} → all ≡ whole_error error → AnswersFirst visits text (2 ^ 64 - 1) (Err error) → (IsFirst (Err error) → 2 ^ 64 - 1 < 2 ^ 64 - 1) → Answers visits text (Err all)
answers_whole visits text error is told whole = subst (λ e. Answers visits text (Err e)) (sym is) (of_whole visits text error told whole)

some_more : {A : Type 0} (P Q : A → Type 0) (o : Option A) → ((x : A) → P x → Q x) → IsSomeAnd o P → IsSomeAnd o Q
some_more P Q (Some x) more holds = more x holds
some_more P Q None more holds = holds

bytes_of_whole : (visits : Json → Visits) (text : Datum → List ℕ) (bytes : List ℕ) (error : FirstReadError) → AnswersFirstBytes visits text (2 ^ 64 - 1) bytes (Err error) → (IsFirstRead (Err error) → 2 ^ 64 - 1 < 2 ^ 64 - 1) → AnswersBytes visits text bytes (Err (whole_read_error error))
bytes_of_whole visits text bytes (Parse e) told whole = told
bytes_of_whole visits text bytes (All r) told whole = (told.0, some_more _ _ (document bytes) (λ j. λ holds. holds.1) told.1)
bytes_of_whole visits text bytes (First r) told whole = let never : 2 ^ 64 - 1 < 2 ^ 64 - 1 = whole tt in absurd (omega (arith, never))
bytes_of_whole visits text bytes Memory told whole = told

-- the error of bytes
pub bytes_answer_whole : (visits : Json → Visits) (text : Datum → List ℕ) (bytes : List ℕ) (error : FirstReadError) {all : ReadError} → all ≡ whole_read_error error → AnswersFirstBytes visits text (2 ^ 64 - 1) bytes (Err error) → (IsFirstRead (Err error) → 2 ^ 64 - 1 < 2 ^ 64 - 1) → AnswersBytes visits text bytes (Err all)
bytes_answer_whole visits text bytes error is told whole = subst (λ e. AnswersBytes visits text bytes (Err e)) (sym is) (bytes_of_whole visits text bytes error told whole)
