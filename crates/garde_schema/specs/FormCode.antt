-- The codes of the faults of form: as texts, and beside sentences.
use Rattle.std.specs.Prelude.{ℕ, List, [], ◌∷◌, ◌≡◌, codes}
use Rattle.garde_i18n.specs.CodeText.{code_line}
use Rattle.garde_problem.specs.CodedText.{Code, beside}
use Rattle.garde_tape.specs.declared.kind.Kind.{Kind}
use Rattle.garde_tape.specs.declared.kind.Kind.TheVariants as kinds
use Rattle.garde_schema.specs.declared.fault.FormFault.{FormFault}
use Rattle.garde_schema.specs.declared.fault.FormFault.TheVariants as faults
use Rattle.garde_schema.specs.Forms.{FormTexts}
pub use Rattle.garde_schema.specs.FormText.{wanted_code, integer_code, form_name}

-- the name of what was found
abbrev pub kind_code : Kind → List ℕ
kind_code kinds.Text = codes "Text"
kind_code kinds.Number = codes "Number"
kind_code kinds.Boolean = codes "Boolean"
kind_code kinds.Null = codes "Null"
kind_code kinds.List = codes "List"
kind_code kinds.Object = codes "Object"

-- the parameters of a fault of form: the name and the value of each
abbrev pub form_params : FormFault → List (List ℕ × List ℕ)
form_params (faults.Wrong wanted found) = (codes "wanted", wanted_code wanted) ∷ (codes "found", kind_code found) ∷ []
form_params (faults.OutOfRange integer) = (codes "of", integer_code integer) ∷ []
form_params _ = []

abbrev pub form_code : FormFault → Code
form_code fault = (form_name fault, form_params fault)

-- a fault of form has no parameter, so that its code is its text
abbrev pub has_no_param : FormFault → Type 0
has_no_param fault = form_params fault ≡ []

-- the text of a fault of form, as a code
abbrev pub code_form_text : FormFault → List ℕ
code_form_text fault = code_line (form_code fault)

-- the message of a fault of form, with the sentence of a handler
abbrev pub form_message : FormTexts → FormFault → List ℕ
form_message texts fault = beside (form_code fault) (texts fault)
