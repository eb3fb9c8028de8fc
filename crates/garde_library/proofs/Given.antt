-- What is handed over of bytes that are not valid.
use Rattle.std.proofs.Common.{ℕ, List, Err}
use Rattle.garde_schema.specs.declared.first_read_error.FirstReadError.{FirstReadError}
use Rattle.garde_schema.specs.declared.first_read_error.FirstReadError.TheVariants.{Parse, All, First, Memory}
use Rattle.garde_library.specs.Checked.{status_of}
use Rattle.garde_library.specs.Value.{IsGivenIf, IsNotGiven}
use Rattle.garde_library.specs.declared.node.Node.{Node}

-- neither nodes nor texts
pub not_given : (error : FirstReadError) (bytes : List ℕ) (old new : List Node) (count : ℕ) (old' new' : List ℕ) (len : ℕ) → IsNotGiven old new count old' new' len → IsGivenIf (status_of (Err error)) bytes old new count old' new' len
not_given (Parse why) bytes old new count old' new' len none = none
not_given (All report) bytes old new count old' new' len none = none
not_given (First report) bytes old new count old' new' len none = none
not_given Memory bytes old new count old' new' len none = none
