use Rattle.std.proofs.Common.{◌≡◌, ◌≤◌, ◌++◌, length, map, take}
use Rattle.std.specs.Prelude.{zip}
use Rattle.csv.specs.Records.{fields_of}
use Rattle.json.specs.Json.{string}
use Rattle.garde_tape.specs.Texts.{field_list}
use Rattle.garde_rows.proofs.Cells.{cells_from}
use Rattle.garde_rows.proofs.fields.near_fields.Given as goal

-- the fields so far and the cells that are left are those of the whole row
abbrev pub invariant-loop-name : goal.invariant-loop-name
invariant-loop-name l = record {
  columns : l.name-iterator.a.row.now ≡ l.columns;
  cells : l.name-iterator.b.row.now ≡ l.cells;
  beside : l.name-iterator.b.at ≡ l.name-iterator.a.at;
  count : l.count ≡ l.name-iterator.a.at;
  bound : l.count ≤ 8;
  size : length l.near ≡ 8;
  fields : field_list (take l.count l.near) ++ cells_from l.name-iterator.a.at (fields_of l.columns) (fields_of l.cells)
      ≡ map (λ p. (p.0, string p.1)) (zip (fields_of l.columns) (fields_of l.cells));
}
