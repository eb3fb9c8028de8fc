use Rattle.std.proofs.Common.{◌≡◌, ◌+◌, ◌<◌, length, Some, [], inl, inr, ap, sym, ◌∙◌, arith}
use Rattle.std.proofs.lemmas.List.{length-set, take_more_set}
use Rattle.csv.specs.Records.{field_at, fields_of}
use Rattle.garde_rows.proofs.Cells.{cell_then, no_column_left, no_cell_left, cells_from, one_more, all_cells, is_within}
use Rattle.garde_rows.proofs.fields.near_fields.Goals as goal

pub bounds-near-count : goal.bounds-near-count
bounds-near-count c =
    let before = c.loop-name.invariant in
    let at = c.loop-name.name-iterator.a.at in
    let one = c.in-Some.ensures.steps.0 in
    let named : Some c.in-Some.name.now ≡ field_at (fields_of c.args.columns.now) at = one.1 ∙ ap (λ r. field_at (fields_of r) at) before.columns in
    let lt = is_within (fields_of c.args.columns.now) at _ named in
    omega (arith, lt, before.count, c.requires)

pub loop-name-preserved : goal.loop-name-preserved
loop-name-preserved c =
    let before = c.loop-name.invariant in
    let at = c.loop-name.name-iterator.a.at in
    let one = c.in-Some.ensures.steps.0 in
    let other = c.in-Some.ensures.steps.1 in
    let named : Some c.in-Some.name.now ≡ field_at (fields_of c.args.columns.now) at = one.1 ∙ ap (λ r. field_at (fields_of r) at) before.columns in
    let is : Some c.in-Some.cell.now ≡ field_at (fields_of c.args.cells.now) at = other.1 ∙ ap (λ r. field_at (fields_of r) c.loop-name.name-iterator.b.at) before.cells ∙ ap (λ i. field_at (fields_of c.args.cells.now) i) before.beside in
    let lt = is_within (fields_of c.args.columns.now) at _ named in
    let room : c.loop-name.count < length c.loop-name.near = omega (arith, lt, before.count, before.size, c.requires) in
    record {
      columns = ap (λ r. r.now) one.0 ∙ before.columns;
      cells = ap (λ r. r.now) other.0 ∙ before.cells;
      beside = other.2 ∙ ap (λ i. i + 1) before.beside ∙ sym one.2;
      count = ap (λ i. i + 1) before.count ∙ sym one.2;
      bound = omega (arith, lt, before.count, c.requires);
      size = length-set c.loop-name.near c.loop-name.count _ ∙ before.size;
      fields = one_more _ _ _ _ _ _ before.fields (cell_then _ _ at _ _ _ named is one.2) (take_more_set c.loop-name.near c.loop-name.count _ room);
    }

pub returns-clause-fields : goal.returns-clause-fields
returns-clause-fields c =
    let before = c.loop-name.invariant in
    let at = c.loop-name.name-iterator.a.at in
    let columns = fields_of c.args.columns.now in
    let cells = fields_of c.args.cells.now in
    let left : cells_from at columns cells ≡ [] = elim c.in-None.ensures.steps [
      | inl ended ↦ no_column_left columns cells at (ended.1.1 ∙ ap (λ r. field_at (fields_of r) at) before.columns)
      | inr ended ↦ no_cell_left columns cells at (ended.1.1 ∙ ap (λ r. field_at (fields_of r) c.loop-name.name-iterator.b.at) before.cells ∙ ap (λ i. field_at cells i) before.beside)
    ] in
    all_cells _ columns cells (cells_from at columns cells) before.fields left
