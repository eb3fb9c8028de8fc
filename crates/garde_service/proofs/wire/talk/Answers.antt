use Rattle.std.proofs.Common.{◌≡◌, ℕ, Bool, false, IsTrue, IsFalse, List, [], ◌++◌, take, refl, ap, sym, subst, ◌∙◌, append_assoc, inl, inr}
use Rattle.http_server.specs.Connection.{history}
use Rattle.http_server.specs.History.{History}
use Rattle.http_server.specs.declared.state.State.TheVariants.{Open}
use Rattle.http_server.proofs.KnownLemmas.{Appends-then, Appends-kept, Consumes-then}
use Rattle.http_server.proofs.StreamLemmas.{Calls-then}
use Rattle.garde_service.proofs.wire.talk.Goals.{in-Open, in_default, then-not-wants_write+in_ok-flush+in_ok-read_once, else-not-wants_write+in_ok-write_to+else-branch-eq0}
use Rattle.garde_service.specs.Heads.{looked}
use Rattle.garde_service.specs.declared.heads.Seen.{Seen}
use Rattle.garde_service.proofs.ByHead.{looked-append}
use Rattle.garde_service.proofs.Talk.{none_lost, none_pending, nothing_lost, on_err, some_lost}
use Rattle.std.proofs.lemmas.Bool.{true≢false}
use Rattle.garde_service.proofs.wire.talk.Goals as goal

-- ---- what was read

pub returns-then-not-matches-clause-read : goal.returns-then-not-matches-clause-read
returns-then-not-matches-clause-read g c =
    let read = c.loop.invariant.0 in
    (read.0, [], none_lost _ _ read.0 read.1, c.advance.ensures.quiet.0 ∙ read.2, inl refl, (refl, read.3))

pub returns-in_err-flush-clause-read : goal.returns-in_err-flush-clause-read
returns-in_err-flush-clause-read g c =
    let read = c.loop.invariant.0 in
    (read.0, [], none_lost _ _ read.0 read.1, c.advance.ensures.quiet.0 ∙ read.2, inl refl, on_err _ _ c.from_residual.ensures.0)

pub returns-in_err-read_once-clause-read : goal.returns-in_err-read_once-clause-read
returns-in_err-read_once-clause-read g c =
    let read = c.loop.invariant.0 in
    let taken = c.read_once.ensures.taken in
    let is_open : (history c.advance.new.self).state ≡ Open = elim c.match-matches.branch [
      | in-Open m ↦ sym c.state.ensures ∙ m.in-Open.is
      | in_default m ↦ absurd (true≢false (sym c.if-not-matches.false ∙ m.matches-is))
    ] in (
      read.0 ++ taken.0,
      taken.1,
      some_lost _ _ _ read.0 taken.0 taken.1 read.1 taken.2,
      taken.3.received ∙ ap (λ (t : List ℕ). t ++ taken.0) (c.advance.ensures.quiet.0 ∙ read.2) ∙ append_assoc _ read.0 taken.0,
      inr (taken.3.state ∙ is_open),
      on_err _ _ c.from_residual-in_err-read_once.ensures.0,
    )

pub returns-in_err-write_to-clause-read : goal.returns-in_err-write_to-clause-read
returns-in_err-write_to-clause-read g c =
    let read = c.loop.invariant.0 in (
      read.0,
      [],
      none_lost _ _ read.0 read.1,
      ap (λ k. (history k).received) c.in_err-write_to.ensures.err.0 ∙ c.advance.ensures.quiet.0 ∙ read.2,
      inl refl,
      on_err _ _ c.from_residual-in_err-write_to.ensures.0,
    )

pub returns-then-branch-eq0-clause-read : goal.returns-then-branch-eq0-clause-read
returns-then-branch-eq0-clause-read g c =
    let read = c.loop.invariant.0 in (
      read.0,
      [],
      none_lost _ _ read.0 read.1,
      ap (λ (h : History). h.received) c.in_ok-write_to.ensures.ok.0 ∙ c.advance.ensures.quiet.0 ∙ read.2,
      inl refl,
      tt,
    )

pub returns-clause-read : goal.returns-clause-read
returns-clause-read g c =
    let read = c.loop.invariant.0 in (read.0, [], none_lost _ _ read.0 read.1, read.2, inl refl, tt)

-- ---- the calls

pub returns-then-not-matches-clause-calls : goal.returns-then-not-matches-clause-calls
returns-then-not-matches-clause-calls g c = Calls-then g.S.Service.answers _ _ _ _ _ _ c.loop.invariant.2 c.advance.ensures.calls

pub returns-in_err-flush-clause-calls : goal.returns-in_err-flush-clause-calls
returns-in_err-flush-clause-calls g c = Calls-then g.S.Service.answers _ _ _ _ _ _ c.loop.invariant.2 c.advance.ensures.calls

pub returns-in_err-read_once-clause-calls : goal.returns-in_err-read_once-clause-calls
returns-in_err-read_once-clause-calls g c =
    let all = Calls-then g.S.Service.answers _ _ _ _ _ _ c.loop.invariant.2 c.advance.ensures.calls in
    (all.0, c.read_once.ensures.taken.3.calls ∙ all.1, all.2)

pub returns-in_err-write_to-clause-calls : goal.returns-in_err-write_to-clause-calls
returns-in_err-write_to-clause-calls g c =
    let all = Calls-then g.S.Service.answers _ _ _ _ _ _ c.loop.invariant.2 c.advance.ensures.calls in
    (all.0, ap (λ k. (history k).calls) c.in_err-write_to.ensures.err.0 ∙ all.1, all.2)

pub returns-then-branch-eq0-clause-calls : goal.returns-then-branch-eq0-clause-calls
returns-then-branch-eq0-clause-calls g c =
    let all = Calls-then g.S.Service.answers _ _ _ _ _ _ c.loop.invariant.2 c.advance.ensures.calls in
    (all.0, ap (λ (h : History). h.calls) c.in_ok-write_to.ensures.ok.0 ∙ all.1, all.2)

pub loop-preserved : goal.loop-preserved
loop-preserved g c =
    let read = c.loop.invariant.0 in
    let written = c.loop.invariant.1 in
    let quiet = c.advance.ensures.quiet in
    let config = c.advance.ensures.config ∙ c.loop.invariant.3 in
    let going : c.wants_write.result ≡ false → IsFalse (history c.advance.new.self).ended =
    λ idle. elim c.match-matches.branch [
      | in-Open m ↦ (c.advance.ensures.rests (sym c.state.ensures ∙ m.in-Open.is) (none_pending _ _ _ c.wants_write.ensures idle)).0
      | in_default m ↦ absurd (true≢false (sym c.if-not-matches.false ∙ m.matches-is))
    ] in
    let all = Calls-then g.S.Service.answers _ _ _ _ _ _ c.loop.invariant.2 c.advance.ensures.calls in
    elim c.if-not-wants_write.branch [
      | then-not-wants_write+in_ok-flush+in_ok-read_once w ↦
          let came = w.in_ok-read_once.ensures.taken in
          rw (w.connection-is, w.reader-is, w.writer-is, w.seen-is) (
            (
              read.0 ++ came.0,
              Consumes-then _ _ _ read.0 came.0 read.1 (nothing_lost _ _ came.0 came.1 came.4.0 came.2),
              came.3.received ∙ ap (λ (t : List ℕ). t ++ came.0) (quiet.0 ∙ read.2) ∙ append_assoc _ read.0 came.0,
              came.4.1 ∙ ap (λ (s : Seen). looked s came.0) read.3 ∙ sym (looked-append _ read.0 came.0),
            ),
            (written.0, Appends-kept _ _ _ written.0 written.1 w.flush.ensures.bytes, came.3.sent ∙ quiet.2 ∙ written.2),
            (all.0, came.3.calls ∙ all.1, all.2),
            w.read_once.ensures.config ∙ config,
            λ first found. w.read_once.ensures.end found,
          )
      | else-not-wants_write+in_ok-write_to+else-branch-eq0 w ↦
          let went = w.in_ok-write_to.ensures.ok in
          let text = take w.in_ok-write_to.field-0 (history c.advance.new.self).pending in
          rw (w.connection-is, w.reader-is, w.writer-is, w.seen-is) (
            (read.0, read.1, ap (λ (h : History). h.received) went.0 ∙ quiet.0 ∙ read.2, read.3),
            (
              written.0 ++ text,
              Appends-then _ _ _ written.0 text written.1 went.1,
              ap (λ (h : History). h.sent) went.0 ∙ ap (λ (t : List ℕ). t ++ text) (quiet.2 ∙ written.2) ∙ append_assoc _ written.0 text,
            ),
            (all.0, ap (λ (h : History). h.calls) went.0 ∙ all.1, all.2),
            w.write_to.ensures.config ∙ config,
            λ first found. c.loop.invariant.4 first (subst (λ (b : Bool). IsTrue b) (ap (λ (h : History). h.ended) went.0 ∙ quiet.1) found),
          )
    ]

pub returns-then-not-matches-clause-end : goal.returns-then-not-matches-clause-end
returns-then-not-matches-clause-end g c first found = c.loop.invariant.4 first (subst (λ (b : Bool). IsTrue b) c.advance.ensures.quiet.1 found)

pub returns-in_err-write_to-clause-end : goal.returns-in_err-write_to-clause-end
returns-in_err-write_to-clause-end g c first found =
    c.loop.invariant.4 first
    (subst (λ (b : Bool). IsTrue b) (ap (λ k. (history k).ended) c.in_err-write_to.ensures.err.0 ∙ c.advance.ensures.quiet.1) found)

pub returns-then-branch-eq0-clause-end : goal.returns-then-branch-eq0-clause-end
returns-then-branch-eq0-clause-end g c first found =
    c.loop.invariant.4 first
    (subst (λ (b : Bool). IsTrue b) (ap (λ (h : History). h.ended) c.in_ok-write_to.ensures.ok.0 ∙ c.advance.ensures.quiet.1) found)

pub returns-clause-end : goal.returns-clause-end
returns-clause-end g c first found = c.loop.invariant.4 first found
