use Rattle.garde_catalog.proofs.catalog.Catalog.put_both.Goals as goal

pub returns : goal.returns
returns c = rw c.word_at.ensures at c.fill.ensures
