use Rattle.std.proofs.Common.{◌++◌, [], ◌∷◌, reverse, refl, sym, ap, ◌∙◌, append_assoc, rules}
use Rattle.std.proofs.lemmas.Grind.{put_three}
use Rattle.std.proofs.lemmas.List.{reverse-reverse}
use Rattle.garde_problem.specs.Pointer.{token, path_pointer}
use Rattle.garde_problem.proofs.Backwards.{turned_more}
use Rattle.garde_problem.proofs.pointer.write_pointer.Goals as goal

-- nothing is written, and all components are to come
pub loop-kind-init : goal.loop-kind-init
loop-kind-init g c = λ plain. (
  [],
  search rules,
  ap (λ parts. path_pointer (reverse parts)) c.in_ok-components.ensures.items ∙ ap path_pointer (reverse-reverse c.args.path.now),
)

-- one token more is written, and one component less is to come
pub loop-kind-preserved : goal.loop-kind-preserved
loop-kind-preserved g c = λ plain.
    let so_far = c.loop-kind.invariant plain in
    let slash = c.in_ok-write_str.ensures.writes so_far.1.plain refl in
    let told = c.in_ok-write_token.ensures slash.plain refl in
    let text = 47 ∷ token c.in-Some.text.now in (
      so_far.0 ++ text,
      put_three _ _ _ _ _ _ _ _ _ so_far.1 slash told refl,
      append_assoc so_far.0 text (path_pointer (reverse c.next_back.new.self))
          ∙ ap (λ parts. so_far.0 ++ path_pointer parts) (sym (turned_more _ _ _ c.in-Some.ensures.steps)) ∙ so_far.2,
    )
