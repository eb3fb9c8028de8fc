use Rattle.std.proofs.Common.{ℕ, List, ◌++◌, reverse, refl, sym, ap, ◌∙◌, append_assoc}
use Rattle.std.specs.List.{flat_map}
use Rattle.std.proofs.lemmas.Grind.{put_two}
use Rattle.garde_report.specs.Part.{Part}
use Rattle.garde_report.specs.Path.{child_text, root_text, part_text}
use Rattle.garde_problem.specs.Escaped.{escaped_text, escaped_path, escaped_path_text}
use Rattle.garde_problem.proofs.Backwards.{turned_first, turned_more}
use Rattle.garde_problem.proofs.escaped.write_path.Goals as goal

-- the first component is written, and the others are to come
pub loop-kind-init : goal.loop-kind-init
loop-kind-init g c = λ plain. (
  root_text c.in-Some.kind (escaped_text c.in-Some.text.now),
  c.in_ok-write_root.ensures plain refl,
  ap escaped_path_text (sym (turned_first c.args.path.now _ _ _ c.in_ok-components.ensures.items c.in-Some.ensures.steps)),
)

-- one component more is written, and one less is to come
pub loop-kind-preserved : goal.loop-kind-preserved
loop-kind-preserved g c = λ plain.
    let so_far = c.loop-kind.invariant plain in
    let text = child_text c.in-Some-next_back.kind (escaped_text c.in-Some-next_back.text.now) in
    let rest : List Part → List ℕ = λ parts. flat_map part_text (escaped_path parts) in (
      so_far.0 ++ text,
      put_two _ _ _ _ _ _ _ so_far.1 (c.in_ok-write_below.ensures so_far.1.plain refl) refl,
      append_assoc so_far.0 text (rest (reverse c.next_back-in-loop-kind.new.self))
          ∙ ap (λ parts. so_far.0 ++ rest parts) (sym (turned_more _ _ _ c.in-Some-next_back.ensures.steps)) ∙ so_far.2,
    )
