use Rattle.example_order.proofs.check.list_order.Goals as goal

pub returns-in-English : goal.returns-in-English
returns-in-English c = rw c.in-English.is (c.list_body.ensures.answer, c.list_body.ensures.valid)

pub returns-in-Czech : goal.returns-in-Czech
returns-in-Czech c = rw c.in-Czech.is (c.list_body-in-Czech.ensures.answer, c.list_body-in-Czech.ensures.valid)
