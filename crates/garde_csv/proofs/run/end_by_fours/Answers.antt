use Rattle.std.proofs.Common.{◌≡◌, ◌∙◌, ℕ, false, get_or, sym, arith}
use Rattle.garde_csv.specs.Quotes.{may_follow}
use Rattle.garde_csv.proofs.Joining.{four-more}
use Rattle.garde_csv.proofs.run.end_by_fours.Goals as goal

pub fours-preserved : goal.fours-preserved
fours-preserved c = (
  omega arith,
  four-more (λ (k : ℕ). may_follow (get_or c.args.text.now k 0) ≡ false) c.fours.at c.fours.invariant.1
      (sym c.is_mark.ensures ∙ c.if-is_mark.false)
      (sym c.is_mark-in-fours.ensures ∙ c.if-is_mark-2.false)
      (sym c.is_mark-in-fours-2.ensures ∙ c.if-is_mark-3.false)
      (sym c.is_mark-in-fours-3.ensures ∙ c.if-is_mark-4.false),
)
