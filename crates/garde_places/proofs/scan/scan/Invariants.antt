use Rattle.std.proofs.Common.{◌≡◌, ◌+◌, ◌≤◌, ◌++◌, drop}
use Rattle.garde_places.specs.declared.lex.Mode.TheVariants.{Between}
use Rattle.garde_places.specs.Scan.{spots}
use Rattle.garde_tape.specs.Place.{text_start}
use Rattle.garde_places.proofs.scan.scan.Given as goal

abbrev pub invariant-loop-byte : goal.invariant-loop-byte
invariant-loop-byte l = record {
  line : l.here.line ≤ l.byte-index + 1;
  column : l.here.column ≤ l.byte-index + 1;
  rest : l.found.items ++ spots l.mode l.here (drop l.byte-index l.text) ≡ spots Between text_start l.text;
}
