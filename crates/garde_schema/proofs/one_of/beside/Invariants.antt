use Rattle.std.proofs.Common.{◌≡◌, drop}
use Rattle.garde_schema.specs.OneOf.{beside}
use Rattle.garde_schema.proofs.one_of.beside.Given as goal

-- the value stands beside a name that is left
abbrev pub invariant-loop-name : goal.invariant-loop-name
invariant-loop-name g l = beside (drop l.name-index l.rows) l.text ≡ beside l.rows l.text
