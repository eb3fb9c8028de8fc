use Rattle.std.proofs.Common.{refl, sym, ◌∙◌, ◌++◌, []}
use Rattle.std.proofs.lemmas.Result.{IfOk-weaker}
use Rattle.garde.specs.Fields.{reference_to}
use Rattle.garde.specs.Tree.{◌then◌}
use Rattle.garde.specs.Visits.{items, entries}
use Rattle.garde.specs.Words.{default_text}
use Rattle.test_garde.proofs.tests.parts.report_of_parts.Goals as goal

-- the trees of the parts, one after the other, are a tree of the list, and so are their reports
pub returns : goal.returns
unfolding items entries
returns c =
    let parts = c.items_in_parts.ensures.trees (record { 0 = reference_to tt }) in
    IfOk-weaker c.joined.result _ _ (λ report is.
    let (a, va, ra) = c.in_ok-one.ensures in
    let (b, vb, rb) = c.in_ok-other.ensures in (
      a then b,
      (parts.two c.args.first.now c.args.second.now (a then b)).1 (a, b, va, vb, refl),
      is ∙ (λ i. ra i ++ rb i) ∙ sym (c.items_in_parts.ensures.reading.report default_text [] a b),
    )) c.joined.ensures
