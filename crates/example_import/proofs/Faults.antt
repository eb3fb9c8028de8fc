-- What is reported of a row.
use Rattle.std.proofs.Common.{◌≡◌, ◌∙◌, sym, ap, refl, ℕ, Bool, true, false, ◌||◌, List, [], ◌∷◌, ◌++◌, append-nil, ◌==◌, length, Ok, Err}
use Rattle.std.proofs.lemmas.Bool.{true≢false}
use Rattle.std.proofs.Math.Dec.{eqb-suc-zero}
use Rattle.garde.specs.Answers.{AnswersOn}
use Rattle.garde.specs.Tree.{Tree, nothing, fault, under, bears, flat}
use Rattle.garde.specs.Handlers.{Datum}
use Rattle.garde.specs.Words.{index_part, Entry, Trace}
use Rattle.garde.specs.declared.validate_error.ValidateError.TheVariants as errors
use Rattle.garde_report.specs.Part.{Part}
use Rattle.example_import.specs.Row.{row_visits}
use Rattle.example_import.specs.Import.{IsReport, code_faults}
use Rattle.example_import.specs.declared.row.Row.{Row}

or_false : (x y : Bool) → (x || y) ≡ false → (x ≡ false) × (y ≡ false)
or_false true y e = absurd (true≢false e)
or_false false y e = (refl, e)

pub append_is_nil : {A : Type 0} (xs ys : List A) → xs ++ ys ≡ [] → (xs ≡ []) × (ys ≡ [])
append_is_nil [] ys e = (refl, e)
append_is_nil (x ∷ xs) ys e = absurd cc

pub flat_of_no_fault : (text : Datum → List ℕ) (p : List Part) (t : Tree) → bears t ≡ false → flat text p t ≡ []
flat_of_no_fault text p nothing e = refl
flat_of_no_fault text p (fault f t) e = absurd (true≢false e)
flat_of_no_fault text p (under k s t) e =
    let parts = or_false (bears s) (bears t) e in
    rw (flat_of_no_fault text (p ++ k ∷ []) s parts.0) (flat_of_no_fault text p t parts.1)

pub no_fault_of_flat : (text : Datum → List ℕ) (p : List Part) (t : Tree) → flat text p t ≡ [] → bears t ≡ false
no_fault_of_flat text p nothing e = refl
no_fault_of_flat text p (fault f t) e = absurd cc
no_fault_of_flat text p (under k s t) e =
    let parts = append_is_nil (flat text (p ++ k ∷ []) s) (flat text p t) e in
    rw (no_fault_of_flat text (p ++ k ∷ []) s parts.0) (no_fault_of_flat text p t parts.1)

-- of a valid row nothing is reported
pub quiet : (text : Datum → List ℕ) (row : Row) (before after : Trace) (index : ℕ) (report : List Entry) → report ≡ [] → AnswersOn (row_visits row) text before after (Ok tt) → IsReport text index row false report
unfolding IsReport
quiet text row before after index report empty a =
    let (t, visited) = (row_visits row).has_tree in
    (t, visited, empty ∙ sym (append-nil (flat text (index_part index ∷ []) t) ∙ flat_of_no_fault text (index_part index ∷ []) t (a.0 t visited)))

-- of another one all of its faults, on a trail of the index alone
pub told : (text : Datum → List ℕ) (row : Row) (before after : Trace) (index : ℕ) (report : List Entry) → before.components ≡ index_part index ∷ []
    → AnswersOn (row_visits row) text before after (Err (errors.Report report)) → IsReport text index row false report
unfolding IsReport
told text row before after index report alone a =
    (a.0, a.1, a.3 ∙ ap (λ under. flat text under a.0) alone ∙ sym (append-nil (flat text (index_part index ∷ []) a.0)))

-- they are some
pub some : (text : Datum → List ℕ) (row : Row) (before after : Trace) (report : List Entry) → AnswersOn (row_visits row) text before after (Err (errors.Report report)) → ¬ (report ≡ [])
some text row before after report a empty = true≢false (sym a.2 ∙ no_fault_of_flat text before.components a.0 (sym a.3 ∙ empty))

-- the fault of the code comes behind them
pub with_code : (text : Datum → List ℕ) (row : Row) (index : ℕ) (old new : List Entry) → IsReport text index row false old → new ≡ old ++ code_faults index true → IsReport text index row true new
unfolding IsReport
with_code text row index old new (t, visited, is) more = (t, visited, more ∙ ap (λ front. front ++ code_faults index true) (is ∙ append-nil (flat text (index_part index ∷ []) t)))

-- where nothing is reported the table has not the code
pub not_stored : (text : Datum → List ℕ) (row : Row) (index : ℕ) (is_stored : Bool) (report : List Entry) → IsReport text index row is_stored report → report ≡ [] → is_stored ≡ false
unfolding IsReport
not_stored text row index false report r empty = refl
not_stored text row index true report r empty = absurd (let e = (append_is_nil (flat text (index_part index ∷ []) r.0) (code_faults index true) (sym r.2 ∙ empty)).1 in cc)

pub empty_of : (report : List Entry) → (length report == 0) ≡ true → report ≡ []
empty_of [] full = refl
empty_of (one ∷ more) full = absurd (true≢false (sym full ∙ eqb-suc-zero (length more)))
