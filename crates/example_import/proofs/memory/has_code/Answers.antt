use Rattle.std.proofs.Common.{sym, subst, map}
use Rattle.example_import.specs.Line.{line_of}
use Rattle.example_import.specs.Import.{Tells}
use Rattle.example_import.proofs.Codes.{tells}
use Rattle.example_import.proofs.memory.has_code.Goals as goal

pub returns : goal.returns
returns c = subst (Tells c.args.code.now (map line_of c.args.rows.now)) (sym c.any_code.ensures) (tells c.args.code.now c.args.rows.now)
