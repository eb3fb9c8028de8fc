use Rattle.garde_catalog.proofs.catalogs.add.Goals as goal

pub returns-clause-ok : goal.returns-clause-ok
returns-clause-ok c = (c.in_ok-keep.ensures.0, (c.in_ok-catalog.catalog, c.in_ok-keep.ensures.1, c.in_ok-catalog.ensures.ok))
