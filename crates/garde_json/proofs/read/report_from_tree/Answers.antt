use Rattle.std.proofs.Common.{[]}
use Rattle.garde_json.proofs.read.report_from_tree.Goals as goal

-- the report with no fault has a form
pub returns-in-None-clause-empty : goal.returns-in-None-clause-empty
returns-in-None-clause-empty c = λ none. absurd (c.in-None.ensures.read [] none)
