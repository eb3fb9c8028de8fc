use Rattle.std.proofs.Common.{◌≡◌, ◌+◌, ℕ, List, Result, length}
use Rattle.std.specs.List.{All}
use Rattle.std.specs.declared.alloc.AllocError.{AllocError}
use Rattle.garde_report.specs.Report.{Entry}
use Rattle.garde_report.specs.Trace.{Trace}
use Rattle.garde.specs.Visits.{Visited}
use Rattle.garde_schema.specs.Forms.{Sound}
use Rattle.garde_schema.specs.Lists.{all_values, each_item}
use Rattle.garde_schema.proofs.Lists.{items_left, values_from}
use Rattle.garde_schema.proofs.list.read_items.Given as goal

-- what is told, read and known of the items that are left makes that of all
abbrev pub invariant-loop-item : goal.invariant-loop-item
invariant-loop-item g l =
    ((after : Trace) (new : List Entry) (answer : Result (Unit {0}) AllocError)
    → Visited (items_left (λ x. g.F.Form.visits l.form (g.H.FormI18n.form_text l.h) x) l.index l.left) (g.H.I18n.text l.h) l.trail after l.report new answer
    → Visited (each_item (λ x. g.F.Form.visits l.form (g.H.FormI18n.form_text l.h) x) l.initial.left) (g.H.I18n.text l.h) l.initial.trail after l.initial.report new answer)
    × (values_from (λ x. g.F.Form.value l.form x) l.values l.left ≡ all_values (λ x. g.F.Form.value l.form x) l.initial.left)
    × (All (λ x. Sound (g.F.Form.visits l.form (g.H.FormI18n.form_text l.h) x) (g.F.Form.keeps l.form) (g.F.Form.value l.form x)) l.left
    → All (λ x. Sound (g.F.Form.visits l.form (g.H.FormI18n.form_text l.h) x) (g.F.Form.keeps l.form) (g.F.Form.value l.form x)) l.initial.left)
    × (l.index + length l.left ≡ length l.initial.left)

abbrev pub decreases-loop-item : goal.decreases-loop-item
decreases-loop-item g l = length l.left
