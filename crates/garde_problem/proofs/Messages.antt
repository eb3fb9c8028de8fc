-- Messages, cut at their marks.
use Rattle.std.proofs.Common.{◌≡◌, ℕ, ◌+◌, List, [], ◌∷◌, ◌++◌, length, Option, Some, None, MatchOption, Bor, All, refl, arith, ap, ap₂, sym, ◌∙◌}
use Rattle.std.specs.List.{slice_split, onto_first, position_or_len}
use Rattle.std.proofs.Math.ListN.{length-drop}
use Rattle.std.proofs.lemmas.List.Elements.{All-head, All-tail}
use Rattle.std.proofs.lemmas.List.Splits.{slice_split_at, slice_split-cons_no, slice_split_first, slice_split_none}
use Rattle.std.proofs.lemmas.List.Sums.{fails_before_first}
use Rattle.std.proofs.lemmas.Str.Pattern.{IsSplitOnceResult, split_once_first}
use Rattle.garde_problem.specs.Coded.{Param, is_mark, params_text, coded_text, pairs, params_in, custom, parts_of, IsCut}
use Rattle.garde_problem.specs.Laws.{IsUnmarked, CodedMessagesAreRead, OtherMessagesAreCustom}

-- what `split_once` at a mark gives
pub at_mark : (text : List ℕ) (r : Option (Bor (List ℕ) × Bor (List ℕ))) → IsSplitOnceResult 31 text r
    → MatchOption r (slice_split is_mark text ≡ text ∷ []) (λ x. IsCut text x.0.now x.1.now)
at_mark text None h =
    let end = split_once_first 31 text None h (omega arith) in
    slice_split_none is_mark text (λ k d below. fails_before_first is_mark text k d (omega (arith, end)))
at_mark text (Some x) h =
    let cut = split_once_first 31 text (Some x) h (omega arith) in (
      slice_split_first is_mark text 0 cut.0
          ∙ ap₂ (λ (front back : List ℕ). front ∷ slice_split is_mark back) (sym cut.1) (sym cut.2),
      omega (arith, cut.0, ap length cut.2, length-drop (position_or_len is_mark text + 1) text),
    )

-- a part without a mark is the first that is read
first_part : (part rest : List ℕ) → IsUnmarked part → slice_split is_mark (part ++ 31 ∷ rest) ≡ part ∷ slice_split is_mark rest
first_part part rest free = slice_split_at is_mark part 31 rest free refl

params_read : (ps : List Param) → All (λ (p : Param). IsUnmarked p.0 × IsUnmarked p.1) ps → params_in (params_text ps) ≡ ps
params_read [] free = refl
params_read (p ∷ ps) free =
    let one = All-head (λ (q : Param). IsUnmarked q.0 × IsUnmarked q.1) p ps free in
    let rest = params_text ps in
    ap pairs (first_part p.0 (p.1 ++ 31 ∷ rest) one.0)
    ∙ ap (λ (texts : List (List ℕ)). pairs (p.0 ∷ texts)) (first_part p.1 rest one.1)
    ∙ ap (λ (more : List Param). p ∷ more) (params_read ps (All-tail (λ (q : Param). IsUnmarked q.0 × IsUnmarked q.1) p ps free))

pub coded_messages_are_read : CodedMessagesAreRead
coded_messages_are_read m free =
    let whole = coded_text m in
    let params = params_text m.params in
    ap (λ (texts : List (List ℕ)). parts_of whole ([] ∷ texts)) (first_part m.code (m.detail ++ 31 ∷ params) free.0)
    ∙ ap (λ (texts : List (List ℕ)). parts_of whole ([] ∷ m.code ∷ texts)) (first_part m.detail params free.1)
    ∙ ap (λ (ps : List Param). record { code = m.code; detail = m.detail; params = ps }) (params_read m.params free.2)

-- where the first text begins with a byte, the message is the sentence
begun_otherwise : (message : List ℕ) (b : ℕ) (texts : List (List ℕ)) → parts_of message (onto_first b texts) ≡ custom message
begun_otherwise message b [] = refl
begun_otherwise message b (text ∷ texts) = refl

pub other_messages_are_custom : OtherMessagesAreCustom
other_messages_are_custom b bs free =
    ap (parts_of (b ∷ bs)) (slice_split-cons_no is_mark b bs free) ∙ begun_otherwise (b ∷ bs) b (slice_split is_mark bs)
