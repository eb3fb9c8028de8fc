use Rattle.std.proofs.Common.{◌++◌, [], ◌∷◌, refl, sym, ap, ◌∙◌, append_assoc}
use Rattle.std.proofs.lemmas.Grind.{put_two}
use Rattle.garde_report.specs.Report.{entry_text}
use Rattle.garde_problem.specs.Escaped.{escaped_path, escaped_text, escaped_report_text}
use Rattle.garde_problem.proofs.escaped.EscapedReportDisplay.fmt.Goals as goal

-- one line more is written, and one less is to come
pub loop-path-preserved : goal.loop-path-preserved
loop-path-preserved g c = λ plain.
    let so_far = c.loop-path.invariant plain in
    let entry = c.in-Some.field-0.now in
    let line = entry_text (escaped_path entry.0) (escaped_text entry.1) ++ 10 ∷ [] in (
      so_far.0 ++ line,
      put_two _ _ _ _ _ _ _ so_far.1 (c.in_ok-write_entry.ensures so_far.1.plain refl) refl,
      append_assoc so_far.0 line (escaped_report_text c.next.new.self)
          ∙ ap (λ entries. so_far.0 ++ escaped_report_text entries) (sym c.in-Some.ensures.steps) ∙ so_far.2,
    )
