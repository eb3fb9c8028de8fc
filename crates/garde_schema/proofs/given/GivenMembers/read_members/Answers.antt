use Rattle.garde.proofs.Author.{visited_none}
use Rattle.garde_schema.proofs.given.GivenMembers.read_members.Goals as goal

pub returns-clause-answer : goal.returns-clause-answer
returns-clause-answer g c = visited_none
