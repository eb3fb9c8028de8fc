use Rattle.std.proofs.Common.{◌≡◌, ◌+◌}
use Rattle.std.specs.Prelude.{count_by}
use Rattle.std.specs.Slice.Iter.{chunks_rest, chunks_size}
use Rattle.garde_engines.specs.Counts.{is_outside}
use Rattle.garde_engines.proofs.count.count_outside.Given as goal

-- what was counted and what is left are all
abbrev pub invariant-loop-block : goal.invariant-loop-block
invariant-loop-block l =
    (chunks_size l.block-iterator ≡ 255)
    × (l.count + count_by (is_outside l.low l.high) (chunks_rest l.block-iterator) ≡ count_by (is_outside l.low l.high) l.bytes)
