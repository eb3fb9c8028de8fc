use Rattle.std.proofs.Common.{◌+◌, ◌∙◌, refl, sym, ap}
use Rattle.example_import.specs.Run.{counted}
use Rattle.example_import.proofs.Turns.{goes, halts, halts_between, moved, settles, stops, batches}
use Rattle.example_import.proofs.run.step.Goals as goal

pub returns-then-not-is_full-clause-on : goal.returns-then-not-is_full-clause-on
returns-then-not-is_full-clause-on g c s before first start ran =
    moved g.L.Source.gives g.R.Sink.tells (g.H.I18n.text c.args.h.now) c.args.batch before first start
    (goes g.L.Source.gives g.R.Sink.tells (g.H.I18n.text c.args.h.now) c.args.batch before first start _ _ _ _ _ _ _ _ _ _ c.in-Ok-Some.faulty ran (rw c.in-Ok-Some.field-0-is at (c.in-Ok-Some.ensures.ok s)) (c.in-Ok-Some.ensures.kept s))
    refl refl (c.count.ensures ∙ ap (λ f. counted f c.args.run.now) c.in-Ok-Some.faulty-is)

pub returns-in-Ok-clause-on : goal.returns-in-Ok-clause-on
returns-in-Ok-clause-on g c s before first start ran =
    let t = c.in-Ok.ensures.sound s in
    let k = c.in-Ok.ensures.ok s in
    let some = batches c.args.batch (c.args.index + 1) (sym c.is_full.ensures ∙ c.if-not-is_full.false) in
    let after = moved g.L.Source.gives g.R.Sink.tells (g.H.I18n.text c.args.h.now) c.args.batch before first start
    (goes g.L.Source.gives g.R.Sink.tells (g.H.I18n.text c.args.h.now) c.args.batch before first start _ _ _ _ _ _ _ _ _ _ c.in-Ok-Some.faulty ran (rw c.in-Ok-Some.field-0-is at (c.in-Ok-Some.ensures.ok t)) (c.in-Ok-Some.ensures.kept t))
    refl refl (c.count.ensures ∙ ap (λ f. counted f c.args.run.now) c.in-Ok-Some.faulty-is) in
    moved g.L.Source.gives g.R.Sink.tells (g.H.I18n.text c.args.h.now) c.args.batch before first start (settles g.L.Source.gives g.R.Sink.tells (g.H.I18n.text c.args.h.now) c.args.batch before first start some after) k.0 k.1 k.2

pub returns-in-Err-keep-clause-err : goal.returns-in-Err-keep-clause-err
returns-in-Err-keep-clause-err g c s before first start ran =
    let t = c.in-Err-keep.ensures.sound s in
    let some = batches c.args.batch (c.args.index + 1) (sym c.is_full.ensures ∙ c.if-not-is_full.false) in
    let after = moved g.L.Source.gives g.R.Sink.tells (g.H.I18n.text c.args.h.now) c.args.batch before first start
    (goes g.L.Source.gives g.R.Sink.tells (g.H.I18n.text c.args.h.now) c.args.batch before first start _ _ _ _ _ _ _ _ _ _ c.in-Ok-Some.faulty ran (rw c.in-Ok-Some.field-0-is at (c.in-Ok-Some.ensures.ok t)) (c.in-Ok-Some.ensures.kept t))
    refl refl (c.count.ensures ∙ ap (λ f. counted f c.args.run.now) c.in-Ok-Some.faulty-is) in
    stops g.L.Source.gives g.R.Sink.tells (g.H.I18n.text c.args.h.now) c.args.batch before first start some after (c.in-Err-keep.ensures.err s)

pub returns-in-Err-clause-halts : goal.returns-in-Err-clause-halts
returns-in-Err-clause-halts g c s before first start ran =
    halts g.L.Source.gives g.R.Sink.tells (g.H.I18n.text c.args.h.now) c.args.batch before first start c.in-Err.cause _ _ _ _ _ _ _ _ c.in-Err.ensures.err ran

pub returns-in-Err-keep-clause-halts : goal.returns-in-Err-keep-clause-halts
returns-in-Err-keep-clause-halts g c s before first start ran =
    let t = c.in-Err-keep.ensures.sound s in
    let after = goes g.L.Source.gives g.R.Sink.tells (g.H.I18n.text c.args.h.now) c.args.batch before first start _ _ _ _ _ _ _ _ _ _ c.in-Ok-Some.faulty ran
    (rw c.in-Ok-Some.field-0-is at (c.in-Ok-Some.ensures.ok t)) (c.in-Ok-Some.ensures.kept t) in
    halts_between g.L.Source.gives g.R.Sink.tells (g.H.I18n.text c.args.h.now) c.args.batch before first start c.in-Err-keep.error _ _ _ _ _ _ after
