use Rattle.std.proofs.Common.{◌++◌, refl, sym}
use Rattle.std.proofs.lemmas.Bool.{true≢false}
use Rattle.std.specs.contracts.io.Error as io_error
use Rattle.http_server.specs.Connection.{history}
use Rattle.http_server.proofs.KnownLemmas.{Appends-then}
use Rattle.garde_service.specs.Author.{never_upgrades}
use Rattle.garde_service.specs.Answers.{IsAnswerOf}
use Rattle.garde_service.proofs.Talk.{closed, ended_first, failed, failed_at_once, nothing_lost, of_err, talked}
use Rattle.garde_service.proofs.wire.answer_all.Goals as goal

-- where reading or writing failed while the connection was open
pub returns-in-Err-clause-talk : goal.returns-in-Err-clause-talk
returns-in-Err-clause-talk g c =
    let read = c.talk.ensures.read in
    let written = c.talk.ensures.written in
    let t = talked (λ h. IsAnswerOf (g.H.Handler.table h) (g.H.Handler.gives h) (g.H.Handler.rejects h)) _ (λ o. o.handler.now) (λ old new call is. is) c.args.handler.now c.args.config c.new-connection.result c.talk.new.connection _ _ refl read.0 written.0
    c.new-connection.ensures.config c.new-connection.ensures.history c.talk.ensures.config read.3 written.2 c.talk.ensures.calls in (
      read.0 ++ read.1,
      written.0,
      (history c.talk.new.connection).ended,
      read.2,
      written.1,
      c.talk.ensures.end (ended_first _ _ c.new-connection.ensures.history),
      failed_at_once (IsAnswerOf (g.H.Handler.table c.args.handler.now) (g.H.Handler.gives c.args.handler.now) (g.H.Handler.rejects c.args.handler.now)) (g.H.Handler.rejects c.args.handler.now) (never_upgrades (g.H.Handler.table c.args.handler.now) (g.H.Handler.gives c.args.handler.now) (g.H.Handler.rejects c.args.handler.now) (g.met.H.Handler.stays c.args.handler.now)) io_error.the_row.Denot c.args.config c.talk.new.connection read.0 read.1 written.0 c.in-Err.error t read.4,
    )

-- where the end of it was not written
pub returns-in_err-close-in-Ok-clause-talk : goal.returns-in_err-close-in-Ok-clause-talk
returns-in_err-close-in-Ok-clause-talk g c =
    let read = c.in-Ok.ensures.read in
    let written = c.talk.ensures.written in
    let t = talked (λ h. IsAnswerOf (g.H.Handler.table h) (g.H.Handler.gives h) (g.H.Handler.rejects h)) _ (λ o. o.handler.now) (λ old new call is. is) c.args.handler.now c.args.config c.new-connection.result c.talk.new.connection _ _ refl read.0 written.0
    c.new-connection.ensures.config c.new-connection.ensures.history c.talk.ensures.config read.3 written.2 c.talk.ensures.calls in
    let end = c.close.ensures in (
      read.0,
      written.0 ++ end.0,
      (history c.talk.new.connection).ended,
      nothing_lost _ _ read.0 read.1 read.5.0 read.2,
      Appends-then _ _ _ written.0 end.0 written.1 end.2,
      c.talk.ensures.end (ended_first _ _ c.new-connection.ensures.history),
      of_err (IsAnswerOf (g.H.Handler.table c.args.handler.now) (g.H.Handler.gives c.args.handler.now) (g.H.Handler.rejects c.args.handler.now)) (g.H.Handler.rejects c.args.handler.now) (never_upgrades (g.H.Handler.table c.args.handler.now) (g.H.Handler.gives c.args.handler.now) (g.H.Handler.rejects c.args.handler.now) (g.met.H.Handler.stays c.args.handler.now)) _ _ _ _ _ _ c.from_residual.ensures.0 (λ e. failed (IsAnswerOf (g.H.Handler.table c.args.handler.now) (g.H.Handler.gives c.args.handler.now) (g.H.Handler.rejects c.args.handler.now)) (g.H.Handler.rejects c.args.handler.now) (never_upgrades (g.H.Handler.table c.args.handler.now) (g.H.Handler.gives c.args.handler.now) (g.H.Handler.rejects c.args.handler.now) (g.met.H.Handler.stays c.args.handler.now)) _ _ c.args.config c.talk.new.connection read.0 written.0 end.0 end.1 e t end.3),
    )

pub returns-in_ok-close-in-Ok-clause-talk : goal.returns-in_ok-close-in-Ok-clause-talk
returns-in_ok-close-in-Ok-clause-talk g c =
    let read = c.in-Ok.ensures.read in
    let written = c.talk.ensures.written in
    let t = talked (λ h. IsAnswerOf (g.H.Handler.table h) (g.H.Handler.gives h) (g.H.Handler.rejects h)) _ (λ o. o.handler.now) (λ old new call is. is) c.args.handler.now c.args.config c.new-connection.result c.talk.new.connection _ _ refl read.0 written.0
    c.new-connection.ensures.config c.new-connection.ensures.history c.talk.ensures.config read.3 written.2 c.talk.ensures.calls in
    let end = c.in_ok-close-in-Ok.ensures in (
      read.0,
      written.0 ++ end.0,
      (history c.talk.new.connection).ended,
      nothing_lost _ _ read.0 read.1 read.5.0 read.2,
      Appends-then _ _ _ written.0 end.0 written.1 end.2,
      c.talk.ensures.end (ended_first _ _ c.new-connection.ensures.history),
      closed (IsAnswerOf (g.H.Handler.table c.args.handler.now) (g.H.Handler.gives c.args.handler.now) (g.H.Handler.rejects c.args.handler.now)) (g.H.Handler.rejects c.args.handler.now) (never_upgrades (g.H.Handler.table c.args.handler.now) (g.H.Handler.gives c.args.handler.now) (g.H.Handler.rejects c.args.handler.now) (g.met.H.Handler.stays c.args.handler.now)) io_error.the_row.Denot _ c.args.config c.talk.new.connection read.0 written.0 end.0 end.1 _ t c.state-stands.ensures c.in-Ok.ensures.closed (λ e. true≢false (sym e)) end.3 end.4,
    )

pub returns-in-Err-clause-says : goal.returns-in-Err-clause-says
returns-in-Err-clause-says g c = g.met.H.Handler.told c.args.handler.now

pub returns-in_err-close-in-Ok-clause-says : goal.returns-in_err-close-in-Ok-clause-says
returns-in_err-close-in-Ok-clause-says g c = g.met.H.Handler.told c.args.handler.now

pub returns-in_ok-close-in-Ok-clause-says : goal.returns-in_ok-close-in-Ok-clause-says
returns-in_ok-close-in-Ok-clause-says g c = g.met.H.Handler.told c.args.handler.now
