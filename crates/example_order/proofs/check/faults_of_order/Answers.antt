use Rattle.example_order.proofs.check.faults_of_order.Goals as goal

pub returns-in-English : goal.returns-in-English
returns-in-English c = rw c.in-English.is (c.check_body_with_nodes.ensures.answer, c.check_body_with_nodes.ensures.valid)

pub returns-in-Czech : goal.returns-in-Czech
returns-in-Czech c = rw c.in-Czech.is (c.check_body_with_nodes-in-Czech.ensures.answer, c.check_body_with_nodes-in-Czech.ensures.valid)
