use Rattle.std.proofs.Common.{◌≡◌, ◌∙◌, ℕ, ℤ, List, ◌∷◌, FitsSigned, ap, of_z, rules, subst, sym, to_z, w64}
use Rattle.std.proofs.lemmas.Int.{to_z-of_z}
use Rattle.sqlite.specs.Edit.{id_in}
use Rattle.sqlite.specs.Held.{state}
use Rattle.sqlite.specs.Order.{Row, column}
use Rattle.sqlite.specs.Tree.{rowid}
use Rattle.example_table.specs.Reading.{IsStoredAs, Spells, line_shown}
use Rattle.example_table.specs.Stock.{IsFront, behind}
use Rattle.example_table.proofs.Behind.{Steps, is_stored, steps_on}
use Rattle.example_table.proofs.reading.Rows.next.Goals as goal

pub invariant_of-self : goal.invariant_of-self
invariant_of-self g c =
    let fits : FitsSigned w64 c.in_ok-last.last = search rules in
    let same : to_z w64 (of_z w64 c.in_ok-last.last) ≡ c.in_ok-last.last = to_z-of_z w64 c.in_ok-last.last fits in
    let rows = (state g.S.Store c.fill.new.self.stock.now.conn).now.trees 0 in
    let at = c.in-Some.ensures.item in
    record {
      is_front = λ made up.
          let it : Steps c.in-Some.shown.now c.pop_front.new.self.items c.fill.new.self.last rows =
          steps_on c.fill.new.self.page.items c.pop_front.new.self.items c.in-Some.shown.now c.fill.new.self.last rows
          (c.fill.new.self.stock.now.holds made up).1.0 (c.fill.new.self.is_front made up) at.3.0 at.1 c.pop_front.ensures.rest in
          let now : id_in (rowid it.row) ≡ to_z w64 (of_z w64 c.in_ok-last.last) = sym (ap (λ (q : Row). id_in (column q 0)) it.is) ∙ ap id_in c.in_ok-last.ensures.ok.1 ∙ sym same in
          subst (λ (n : ℤ). IsFront c.pop_front.new.self.items n rows) now it.front;
    }

pub returns-clause-stored : goal.returns-clause-stored
returns-clause-stored g c =
    is_stored c.args.self.now.index c.in_ok-row_of.field-0 c.in_ok-stored.stored
    (subst (λ (i : ℕ). IsStoredAs i c.in_ok-row_of.field-0 c.in_ok-stored.stored) c.fill.ensures.same.1 c.in_ok-stored.ensures)

pub returns-clause-read : goal.returns-clause-read
returns-clause-read g c made up =
    let fits : FitsSigned w64 c.in_ok-last.last = search rules in
    let same : to_z w64 (of_z w64 c.in_ok-last.last) ≡ c.in_ok-last.last = to_z-of_z w64 c.in_ok-last.last fits in
    let rows = (state g.S.Store c.fill.new.self.stock.now.conn).now.trees 0 in
    let last = to_z w64 (of_z w64 c.in_ok-last.last) in
    let at = c.in-Some.ensures.item in
    let it : Steps c.in-Some.shown.now c.pop_front.new.self.items c.fill.new.self.last rows =
    steps_on c.fill.new.self.page.items c.pop_front.new.self.items c.in-Some.shown.now c.fill.new.self.last rows
    (c.fill.new.self.stock.now.holds made up).1.0 (c.fill.new.self.is_front made up) at.3.0 at.1 c.pop_front.ensures.rest in
    let now : id_in (rowid it.row) ≡ last = sym (ap (λ (q : Row). id_in (column q 0)) it.is) ∙ ap id_in c.in_ok-last.ensures.ok.1 ∙ sym same in
    let one = subst (λ (n : ℤ). behind c.fill.new.self.last rows ≡ it.row ∷ behind n rows) now it.left in
    let two = subst (λ (n : ℤ). behind n rows ≡ it.row ∷ behind last rows) c.fill.ensures.same.0 one in (
      it.row,
      subst (λ (t : List Row). behind c.args.self.now.last t ≡ it.row ∷ behind last t) (c.in_ok-fill.ensures.kept made up) two,
      sym now,
      (
        c.in_ok-row_of.field-0,
        subst (λ (q : Row). Spells (line_shown q) c.in_ok-row_of.field-0) it.is c.in_ok-row_of.ensures,
        subst (λ (i : ℕ). IsStoredAs i c.in_ok-row_of.field-0 c.in_ok-stored.stored) c.fill.ensures.same.1 c.in_ok-stored.ensures,
      ),
    )
