use Rattle.std.proofs.Common.{◌≤◌, IsTrue}
use Rattle.example_import.specs.Run.{Ran}
use Rattle.example_import.proofs.run.take_all.Given as goal

abbrev pub invariant-items : goal.invariant-items
invariant-items g l =
    (g.S.Store.is_sound l.store → g.S.Store.is_sound l.fn.store)
    × (g.S.Store.is_sound l.store → IsTrue (g.S.Store.has_begun l.store))
    × (l.run.stored ≤ l.index)
    × (g.S.Store.is_sound l.store
    → Ran g.L.Source.gives g.R.Sink.tells (g.H.I18n.text l.fn.h) l.fn.batch (g.S.Store.lines l.fn.store) l.fn.list l.list l.fn.out l.out (g.S.Store.lines l.store) (g.S.Store.kept l.store) l.index l.run)
