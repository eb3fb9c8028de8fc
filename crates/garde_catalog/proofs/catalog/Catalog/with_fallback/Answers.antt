use Rattle.garde_catalog.specs.declared.catalog.Tables.TheVariants as tables
use Rattle.garde_catalog.proofs.Made.{is_catalog}
use Rattle.garde_catalog.proofs.catalog.Catalog.with_fallback.Goals as goal

pub returns-clause-ok : goal.returns-clause-ok
returns-clause-ok c =
    is_catalog c.args.entries.now c.args.fallback.now (record { tables = tables.Fixed c.lines_of.result c.lines_of-2.result }) c.lines_of.ensures c.lines_of-2.ensures c.in_ok-check_tables.ensures.ok
