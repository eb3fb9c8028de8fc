use Rattle.garde_library.proofs.details.of_reason.Goals as goal

pub returns : goal.returns
returns c = rw c.new-report.ensures at c.json_of.ensures
