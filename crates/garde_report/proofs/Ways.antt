-- A stack whose first items lie apart from the others.
use Rattle.std.proofs.Common.{◌≡◌, ℕ, ◌+◌, ◌-◌, ◌<◌, ◌≤◌, List, [], ◌∷◌, ◌++◌, length, take, sym, ap, ◌∙◌, arith, length-set, append_assoc}
use Rattle.std.specs.Prelude.{slice_set}
use Rattle.std.proofs.Math.Seq.{take-append-add}
use Rattle.std.proofs.lemmas.List.{take-append-le, take_more_set, take_all, length-take, length_push}

module _ {T : Type 0} where
  -- one item more among the near ones
  pub near_push : (d : ℕ) (near far : List T) (x : T) → d < length near → take (d + 1) (slice_set near d x ++ far) ≡ take d (near ++ far) ++ x ∷ []
  near_push d near far x less =
      take-append-le (d + 1) (slice_set near d x) far (rw length-set (omega arith))
      ∙ take_more_set near d x less
      ∙ ap (λ ys. ys ++ x ∷ []) (sym (take-append-le d near far (omega arith)))

  -- beyond the near items, the far ones count
  over : (d : ℕ) (near far : List T) → length near ≡ 8 → 8 ≤ d → take d (near ++ far) ≡ near ++ take (d - 8) far
  over d near far room more =
      let parts : d ≡ length near + (d - 8) = omega arith in
      ap (λ n. take n (near ++ far)) parts ∙ take-append-add near far (d - 8)

  -- the far items that were taken off are gone
  pub far_kept : (d : ℕ) (near far kept : List T) → kept ≡ take (d - 8) far → length near ≡ 8 → 8 ≤ d → d ≤ 8 + length far → take d (near ++ kept) ≡ take d (near ++ far)
  far_kept d near far kept is room more all =
      over d near kept room more
      ∙ ap (λ ys. near ++ ys) (take_all (d - 8) kept (rw (is, length-take) (omega arith)) ∙ is)
      ∙ sym (over d near far room more)

  -- and one more stands behind the others
  pub far_push : (d : ℕ) (near far pushed : List T) (x : T) → pushed ≡ take (d - 8) far ++ x ∷ [] → length near ≡ 8 → 8 ≤ d → d ≤ 8 + length far → take (d + 1) (near ++ pushed) ≡ take d (near ++ far) ++ x ∷ []
  far_push d near far pushed x is room more all =
      let less : d - 8 ≤ length far = omega arith in
      let long : length pushed ≡ d + 1 - 8 = rw (is, length_push, length-take) (omega arith) in
      over (d + 1) near pushed room (omega arith)
      ∙ ap (λ ys. near ++ ys) (take_all (d + 1 - 8) pushed (omega arith) ∙ is)
      ∙ sym (append_assoc near (take (d - 8) far) (x ∷ []))
      ∙ ap (λ ys. ys ++ x ∷ []) (sym (over d near far room more))
