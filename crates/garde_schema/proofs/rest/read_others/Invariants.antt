use Rattle.std.proofs.Common.{◌≡◌, List, Result, length}
use Rattle.std.specs.List.{All}
use Rattle.std.specs.declared.alloc.AllocError.{AllocError}
use Rattle.garde_report.specs.Report.{Entry}
use Rattle.garde_report.specs.Trace.{Trace}
use Rattle.garde.specs.Visits.{Visited}
use Rattle.garde_schema.specs.Flattened.{others}
use Rattle.garde_schema.specs.Lists.{all_values}
use Rattle.garde_schema.specs.Maps.{each_entry, entry_value, first_of_names, has_name, members_first}
use Rattle.garde_schema.proofs.Lists.{values_from}
use Rattle.garde_schema.proofs.Maps.{SoundEntry}
use Rattle.garde_schema.proofs.rest.read_others.Given as goal

-- what is told, read and known of the members that are left makes that of all
abbrev pub invariant-loop-name : goal.invariant-loop-name
invariant-loop-name g l =
    ((after : Trace) (new : List Entry) (answer : Result (Unit {0}) AllocError)
    → Visited (each_entry (g.H.FormI18n.form_text l.h) (λ v. g.F.Form.visits l.form (g.H.FormI18n.form_text l.h) v) (first_of_names (λ name. has_name l.names name) (others (λ name. g.M.Members.names l.named name) l.left))) (g.H.I18n.text l.h) l.trail after l.report new answer
    → Visited (each_entry (g.H.FormI18n.form_text l.h) (λ v. g.F.Form.visits l.form (g.H.FormI18n.form_text l.h) v) (members_first (others (λ name. g.M.Members.names l.named name) l.initial.left))) (g.H.I18n.text l.h) l.initial.trail after l.initial.report new answer)
    × (values_from (entry_value (λ v. g.F.Form.value l.form v)) l.values (first_of_names (λ name. has_name l.names name) (others (λ name. g.M.Members.names l.named name) l.left)) ≡ all_values (entry_value (λ v. g.F.Form.value l.form v)) (members_first (others (λ name. g.M.Members.names l.named name) l.initial.left)))
    × (All (SoundEntry (g.H.FormI18n.form_text l.h) (λ v. g.F.Form.visits l.form (g.H.FormI18n.form_text l.h) v) (λ x. g.F.Form.keeps l.form x) (λ v. g.F.Form.value l.form v)) (first_of_names (λ name. has_name l.names name) (others (λ name. g.M.Members.names l.named name) l.left))
    → All (SoundEntry (g.H.FormI18n.form_text l.h) (λ v. g.F.Form.visits l.form (g.H.FormI18n.form_text l.h) v) (λ x. g.F.Form.keeps l.form x) (λ v. g.F.Form.value l.form v)) (members_first (others (λ name. g.M.Members.names l.named name) l.initial.left)))

abbrev pub decreases-loop-name : goal.decreases-loop-name
decreases-loop-name g l = length (others (λ name. g.M.Members.names l.named name) l.left)
