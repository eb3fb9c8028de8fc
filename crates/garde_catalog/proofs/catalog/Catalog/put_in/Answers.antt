use Rattle.garde_catalog.proofs.catalog.Catalog.put_in.Goals as goal

pub returns : goal.returns
returns c = rw c.word_at.ensures at c.fill_one.ensures
