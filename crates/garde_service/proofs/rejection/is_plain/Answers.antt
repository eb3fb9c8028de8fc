use Rattle.std.proofs.Common.{◌≡◌, sym, ◌∙◌, arith}
use Rattle.std.proofs.lemmas.Slice.Eq.{bytes_eq-Decides}
use Rattle.garde_service.proofs.Chunk.{chunk_is_all}
use Rattle.garde_service.proofs.rejection.is_plain.Goals as goal

pub returns-then-plain-len : goal.returns-then-plain-len
returns-then-plain-len c = λ yes.
    let same : c.plain_answer-plain.result.now ≡ c.chunk.result.now = (bytes_eq-Decides _ _).0 (sym c.eq.ensures ∙ yes) in
    chunk_is_all _ _ c.chunk.ensures (grind (arith, c.if-plain-len.true, c.len.ensures, same)) ∙ sym same ∙ c.plain_answer-plain.ensures
