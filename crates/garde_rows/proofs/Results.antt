-- What the reading of a tree gives, where it is known which row the tree is.
use Rattle.std.proofs.Common.{◌≡◌, ℕ, Bool, true, false, List, Option, Some, None, Result, Ok, Err, refl, subst, ◌∙◌}
use Rattle.std.specs.Prelude.{IfOk, if◌then◌else◌}
use Rattle.json.specs.Json.{Json}
use Rattle.garde_i18n.specs.Datum.{Datum}
use Rattle.garde.specs.Answers.{Answers}
use Rattle.garde.specs.Visits.{Visits}
use Rattle.garde.specs.declared.validate_error.ValidateError.{ValidateError}
use Rattle.garde.specs.declared.validate_error.ValidateError.TheVariants as errors
use Rattle.garde_rows.specs.Rows.{AnswersRow}

-- the answer on a tree is that on the row that it is
pub answers_row : (columns : List (List ℕ)) (visits : Json → Visits) (text : Datum → List ℕ) (tree row : Json) (r : Result (Unit {0}) ValidateError) → tree ≡ row → Answers (visits tree) text r → AnswersRow columns (visits row) text r
answers_row columns visits text tree row (Ok done) is told = subst (λ j. Answers (visits j) text (Ok done)) is told
answers_row columns visits text tree row (Err (errors.Report report)) is told = subst (λ j. Answers (visits j) text (Err (errors.Report report))) is told
answers_row columns visits text tree row (Err errors.Memory) is told = λ near. subst (λ j. Answers (visits j) text (Err errors.Memory)) is told

value_there : {A : Type 0} (whole : Bool) (value : Option A) (out : A) → (if whole then value else None) ≡ Some out → value ≡ Some out
value_there true value out is = is
value_there false value out is = cc

whole_there : {A : Type 0} (whole : Bool) (value : Option A) (out : A) → (if whole then value else None) ≡ Some out → whole ≡ true
whole_there true value out is = refl
whole_there false value out is = cc

-- a value that was read is that of the row, and the row is whole
pub value_row : {A E : Type 0} (r : Result A E) (whole : Bool) (value : Json → Option A) (tree row : Json) → tree ≡ row → IfOk r (λ out. (if whole then value tree else None) ≡ Some out) → IfOk r (λ out. value row ≡ Some out)
value_row (Ok out) whole value tree row is told = subst (λ j. value j ≡ Some out) is (value_there whole (value tree) out told)
value_row (Err e) whole value tree row is told = tt

pub whole_row : {A E : Type 0} (r : Result A E) (whole is_so : Bool) → is_so ≡ whole → (value : Option A) → IfOk r (λ out. (if whole then value else None) ≡ Some out) → IfOk r (λ out. is_so ≡ true)
whole_row (Ok out) whole is_so same value told = same ∙ whole_there whole value out told
whole_row (Err e) whole is_so same value told = tt
