use Rattle.std.proofs.Common.{◌≡◌, ◌∙◌, ℤ, List, FitsSigned, map, of_z, rules, subst, sym, to_z, w64}
use Rattle.std.proofs.lemmas.Int.{to_z-of_z}
use Rattle.sqlite.specs.Held.{state}
use Rattle.sqlite.specs.Order.{Row}
use Rattle.example_table.specs.Stock.{IsFront, behind, page_behind, shown}
use Rattle.example_table.proofs.Behind.{front_is}
use Rattle.example_table.proofs.reading.Rows.fill.Goals as goal

pub invariant_of-self-then-is_empty : goal.invariant_of-self-then-is_empty
invariant_of-self-then-is_empty g c =
    let fits : FitsSigned w64 c.args.self.now.last = search rules in
    let same : to_z w64 (of_z w64 c.args.self.now.last) ≡ c.args.self.now.last = to_z-of_z w64 c.args.self.now.last fits in
    let old = (state g.S.Store c.args.self.now.stock.now.conn).now.trees 0 in
    record {
      is_front = λ made up.
          let rows : c.from.result.items ≡ page_behind c.args.self.now.last old =
          c.from.ensures.0 ∙ subst (λ (n : ℤ). c.in_ok-page.field-0.items ≡ page_behind n old) same (c.in_ok-page.ensures.rows made up) in
          subst (λ (t : List Row). IsFront c.from.result.items c.args.self.now.last t) (sym (c.in_ok-page.ensures.kept made up))
          (front_is 1000 c.from.result.items (map shown (behind c.args.self.now.last old)) rows);
    }
