use Rattle.std.proofs.Common.{rules}
use Rattle.std.proofs.lemmas.List.{take_rest}
use Rattle.garde_catalog.proofs.Cutting.{split_once_at_first, split_once_none}
use Rattle.garde_catalog.proofs.field.split_once.Goals as goal

pub returns-in-Some : goal.returns-in-Some
returns-in-Some c =
    let input = c.args.bytes.now in
    let found = split_once_at_first c.args.separator input c.in-Some.i (search rules) (search rules) (search rules) in
    record { before = rw found; after = rw (found, take_rest) }

pub returns-in-None : goal.returns-in-None
returns-in-None c =
    let none = split_once_none c.args.separator c.args.bytes.now (search rules) in
    record { before = rw none; after = rw none }
