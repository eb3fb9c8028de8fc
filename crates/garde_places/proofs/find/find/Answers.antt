use Rattle.std.proofs.Common.{◌≡◌, ℕ, ◌+◌, List, [], map, drop, get_or, sym, ap, ◌∙◌, subst, arith}
use Rattle.std.proofs.lemmas.List.{drop-drop, drop_all, length-map}
use Rattle.std.specs.Borrow.{Bor}
use Rattle.json.specs.Tape.{node_token}
use Rattle.garde_report.specs.Part.{item_part}
use Rattle.garde_report.specs.declared.error.component.Kind.{Kind}
use Rattle.garde_report.specs.declared.error.component.Kind.TheVariants as kind
use Rattle.garde_places.specs.Marks.{MarkHolds, MarksHold}
use Rattle.garde_places.specs.Steps.{Spells, before, tokens_before}
use Rattle.garde_places.proofs.Marking.{each_holds, marks_set}
use Rattle.garde_places.proofs.Walking.{mapped_more, stepped, some_step, one_step, no_step}
use Rattle.garde_places.proofs.find.find.Goals.{then-depth-marks, else-depth-marks}
use Rattle.garde_places.proofs.find.find.Goals as goal

pub step_at-requires-clause-holds : goal.step_at-requires-clause-holds
step_at-requires-clause-holds c =
    let all = map node_token c.args.nodes.now in
    subst (MarkHolds all) (sym c.mark_at.ensures) (each_holds all c.loop-depth.marks c.loop-depth.depth c.loop-depth.invariant.hold)

pub returns-in-None-clause-value : goal.returns-in-None-clause-value
returns-in-None-clause-value c j h =
    let now = c.loop-depth.invariant.value j h in
    let way = c.args.way.now in
    let k = c.loop-depth.depth in
    let none = no_step c.loop-depth.here _ (drop (k + 1) (map item_part way)) now.0 (c.in-None.ensures.value now.0 now.1) in
    let here : c.loop-depth.here ≡ c.loop-depth.here + 0 = omega arith in
    here ∙ ap (λ n. c.loop-depth.here + n) (sym (ap (λ p. tokens_before p now.0) (mapped_more item_part way k _ c.loop-depth-test.true) ∙ none)) ∙ sym now.2

pub loop-depth-preserved : goal.loop-depth-preserved
loop-depth-preserved c =
    let way = c.args.way.now in
    let all = map node_token c.args.nodes.now in
    let k = c.loop-depth.depth in
    record {
      value = λ j h.
          let now = c.loop-depth.invariant.value j h in
          let text : Bor (List ℕ) = record { ref_ptr = (0, 0); now = [] } in
          let none : Kind × Bor (List ℕ) = (kind.None, text) in
          let s = item_part (get_or way k none) in
          let rest = drop (k + 1) (map item_part way) in
          let f = some_step c.loop-depth.here c.in-Some.next s now.0 (c.in-Some.ensures.value now.0 now.1) in
          let there = stepped s now.0 (drop c.loop-depth.here all) f.0 f.1 now.1 in (
            f.0,
            subst (λ ts. Spells ts f.0) (drop-drop (before s now.0) c.loop-depth.here all ∙ ap (λ n. drop n all) (sym f.2)) there,
            now.2 ∙ ap (λ p. c.loop-depth.here + tokens_before p now.0) (mapped_more item_part way k none c.loop-depth-test.true) ∙ ap (λ n. c.loop-depth.here + n) (one_step s rest now.0 f.0 f.1) ∙ omega (arith, f.2),
          );
      hold = elim c.if-depth-marks.branch [
        | then-depth-marks w ↦ subst (MarksHold all) (sym w.marks-is) (marks_set all c.loop-depth.marks k c.in-Some.mark w.if-depth-marks.true c.loop-depth.invariant.hold c.in-Some.ensures.holds)
        | else-depth-marks w ↦ subst (MarksHold all) (sym w.marks-is) c.loop-depth.invariant.hold
      ];
      names = c.in-Some.ensures.names;
    }

pub returns-clause-value : goal.returns-clause-value
returns-clause-value c j h =
    let now = c.loop-depth.invariant.value j h in
    let path = map item_part c.args.way.now in
    let done = drop_all c.loop-depth.depth path (omega (arith, length-map c.args.way.now item_part)) in
    let here : c.loop-depth.here ≡ c.loop-depth.here + 0 = omega arith in
    here ∙ ap (λ p. c.loop-depth.here + tokens_before p now.0) (sym done) ∙ sym now.2
