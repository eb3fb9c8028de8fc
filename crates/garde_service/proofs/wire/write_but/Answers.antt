use Rattle.std.proofs.Common.{ℕ, List, ◌++◌, take, sym, ap, subst, ◌∙◌, append_assoc}
use Rattle.bytes.specs.Unread.{IsChunkOf}
use Rattle.http_server.proofs.KnownLemmas.{Appends-then}
use Rattle.garde_service.proofs.Chunk.{front_then_rest}
use Rattle.garde_service.proofs.wire.write_but.Goals as goal

pub loop-bytes-preserved : goal.loop-bytes-preserved
loop-bytes-preserved g c =
    let before = c.loop-bytes.invariant in
    let count = c.in_ok-count.count in
    let front = c.split_at.result.0.now in
    let all = g.B.Buf.unread c.loop-bytes.bytes in
    let chunk = subst (λ (chunk : List ℕ). IsChunkOf chunk all) c.split_at.ensures.by_index.0 c.chunk-chunk.ensures in
    let part = front_then_rest front c.split_at.result.1.now all count chunk c.in_ok-count.ensures.bound in (
      before.0 ++ take count front,
      Appends-then _ _ _ before.0 (take count front) before.1 c.in_ok-count.ensures.bytes,
      before.2 ∙ ap (λ (t : List ℕ). before.0 ++ t) (part ∙ ap (λ (t : List ℕ). take count front ++ t) (sym c.advance.ensures.value))
          ∙ sym (append_assoc before.0 (take count front) _),
    )
