use Rattle.std.proofs.Common.{◌≡◌, ◌++◌, List, ℕ, Option, refl, ap, sym, ◌∙◌, append_assoc, inl, inr}
use Rattle.std.specs.Prelude.{option_map}
use Rattle.http_server.proofs.KnownLemmas.{Appends-then}
use Rattle.garde_service.specs.Ending.{rejection_text}
use Rattle.garde_service.specs.Said.{said}
use Rattle.garde_service.proofs.ByHead.{content_by_bytes}
use Rattle.garde_service.proofs.Talk.{on_err}
use Rattle.garde_service.proofs.wire.refuse.Goals as goal

-- the body is the one of the handler, or none
pub returns-in-Ok : goal.returns-in-Ok
returns-in-Ok g c =
    let front = c.write_but.ensures.written in
    let written = c.write_out.ensures.written in
    let kind = c.rejected_of-kind.result in
    let body : Option (List ℕ × List ℕ) = option_map said c.content-body.result in
    let date = c.date_of.result in
    let plain = c.is_plain.ensures c.if-is_plain.true ∙ c.rejected_of-kind.ensures in
    let pending = sym c.into_buffers-unread.ensures.pending ∙ front.2 ∙ ap (λ (t : List ℕ). front.0 ++ t) plain in
    let text : written.0 ++ c.write_out.new.bytes.now ≡ rejection_text kind body date =
    sym written.2 ∙ c.as_bytes-rest.ensures.value ∙ c.as_str.ensures.value ∙ c.in-Ok.ensures in
    let fits = content_by_bytes (g.H.Handler.rejects c.args.handler.now) kind body _ _ c.requires.seen c.content-body.ensures in (
      front.0 ++ written.0,
      c.write_out.new.bytes.now,
      Appends-then _ _ _ front.0 written.0 front.1 written.1,
      inr (
        c.args.why,
        front.0,
        written.0 ++ c.write_out.new.bytes.now,
        c.requires.state,
        pending,
        (kind, body, date, c.rejected_of-kind.ensures, fits, text),
        append_assoc front.0 written.0 c.write_out.new.bytes.now,
      ),
      c.write_out.ensures.all,
    )

-- where the answer of `http_server` was written, or a part of it
pub returns : goal.returns
returns g c =
    let front = c.write_but.ensures.written in
    let rest = c.write_out-in_default.ensures.written in
    let last = c.write_out-in_default.new.bytes.items in (
      front.0 ++ rest.0,
      last,
      Appends-then _ _ _ front.0 rest.0 front.1 rest.1,
      inl (
        append_assoc front.0 rest.0 last ∙ ap (λ (t : List ℕ). front.0 ++ t) (sym rest.2) ∙ sym front.2 ∙ c.into_buffers-unread.ensures.pending,
        λ why is. refl,
      ),
      tt,
    )

pub returns-in_err-write_out-in_default : goal.returns-in_err-write_out-in_default
returns-in_err-write_out-in_default g c =
    let front = c.write_but.ensures.written in
    let rest = c.write_out-in_default.ensures.written in
    let last = c.write_out-in_default.new.bytes.items in
    let failed = c.from_residual-in_err-write_out-in_default.ensures.0 in (
      front.0 ++ rest.0,
      last,
      Appends-then _ _ _ front.0 rest.0 front.1 rest.1,
      inl (
        append_assoc front.0 rest.0 last ∙ ap (λ (t : List ℕ). front.0 ++ t) (sym rest.2) ∙ sym front.2 ∙ c.into_buffers-unread.ensures.pending,
        λ why is. failed,
      ),
      on_err _ _ failed,
    )
