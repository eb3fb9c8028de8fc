use Rattle.sqlite.specs.Held.{state}
use Rattle.example_import.specs.Line.{line_of}
use Rattle.example_table.proofs.Holding.{put_holds, lines_after_put}
use Rattle.example_table.proofs.database.StockStore.insert.Goals as goal

pub invariant_of-self : goal.invariant_of-self
invariant_of-self g c = record {
  holds = λ made up.
      let was = c.put.ensures.up up in
      let table = (c.args.self.now.holds made was).0 in
      put_holds (state g.S.Store c.args.self.now.conn) (state g.S.Store c.put.new.conn) (c.args.self.now.holds made) was (line_of c.args.row.now) c.put.result
      (c.put.ensures.schema up table) (c.put.ensures.rows up table) (c.put.ensures.kept up table (c.requires.begun (made, was))) (c.put.ensures.err up);
}

pub returns-in-Ok-clause-lines : goal.returns-in-Ok-clause-lines
returns-in-Ok-clause-lines g c sound =
    let was = c.in-Ok.ensures.up sound.1 in
    let held = c.args.self.now.holds sound.0 was in
    lines_after_put (state g.S.Store c.args.self.now.conn) (state g.S.Store c.put.new.conn) c.args.row.now held.1.0 (c.in-Ok.ensures.rows sound.1 held.0)
