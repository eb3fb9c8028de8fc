-- The bytes that lie together at the front of a `Buf`.
use Rattle.std.proofs.Common.{◌≡◌, ℕ, ◌≤◌, List, ◌++◌, length, take, drop, sym, ap, ◌∙◌, arith}
use Rattle.std.proofs.lemmas.List.{length-append, take-append-drop, take-append-le, take_all}
use Rattle.bytes.specs.Unread.{IsChunkOf}

-- all bytes are the first n of the chunk, and then the rest
pub chunk_then_rest : (chunk all : List ℕ) (n : ℕ) → IsChunkOf chunk all → n ≤ length chunk → all ≡ take n chunk ++ drop n all
chunk_then_rest chunk all n is fits =
    let behind = drop (length chunk) all in
    let whole : chunk ++ behind ≡ all = ap (λ (t : List ℕ). t ++ behind) (sym is.front) ∙ take-append-drop (length chunk) all in
    let front : take n all ≡ take n chunk = ap (λ (t : List ℕ). take n t) (sym whole) ∙ take-append-le n chunk behind fits in
    sym (take-append-drop n all) ∙ ap (λ (t : List ℕ). t ++ drop n all) front

-- and so are they of the first part of the chunk
pub front_then_rest : (front back all : List ℕ) (n : ℕ) → IsChunkOf (front ++ back) all → n ≤ length front → all ≡ take n front ++ drop n all
front_then_rest front back all n is fits =
    chunk_then_rest (front ++ back) all n is (omega (arith, length-append front back, fits))
    ∙ ap (λ (t : List ℕ). t ++ drop n all) (take-append-le n front back fits)

-- a chunk as long as all bytes is all of them
pub chunk_is_all : (chunk all : List ℕ) → IsChunkOf chunk all → length all ≡ length chunk → all ≡ chunk
chunk_is_all chunk all is same = sym (take_all (length chunk) all (omega (arith, same))) ∙ is.front
