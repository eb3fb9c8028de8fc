use Rattle.std.proofs.Common.{refl, ap, arith}
use Rattle.example_import.specs.declared.run.Run.{Run}
use Rattle.example_import.proofs.Turns.{begins, moved}
use Rattle.example_import.proofs.run.take_all.Goals as goal

pub items-init : goal.items-init
items-init g c = (
  λ s. s,
  c.requires.begun,
  omega (arith, ap (λ (r : Run). r.stored) c.requires.new),
  λ s. moved g.L.Source.gives g.R.Sink.tells (g.H.I18n.text c.args.h.now) c.args.batch (g.S.Store.lines c.args.store.now) c.args.list.now c.args.out.now
      (begins g.L.Source.gives g.R.Sink.tells (g.H.I18n.text c.args.h.now) c.args.batch (g.S.Store.lines c.args.store.now) c.args.list.now c.args.out.now (g.S.Store.kept c.args.store.now) (c.requires.settled s)) refl refl c.requires.new,
)
