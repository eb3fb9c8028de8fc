use Rattle.std.proofs.Common.{◌≡◌, ◌+◌, ◌*◌, List, Result, length}
use Rattle.std.specs.declared.alloc.AllocError.{AllocError}
use Rattle.garde_report.specs.Report.{Entry}
use Rattle.garde_report.specs.Trace.{Trace}
use Rattle.garde.specs.Visits.{Visited}
use Rattle.garde_described.specs.Keywords.{keyword_of}
use Rattle.garde_described.specs.Faults.{asks, by_place, faults, in_turn, item_asks, numbered, other_asks, properties_asks}
use Rattle.garde_described.proofs.check.+check.Given as goal

-- a visit of what is left makes a visit of all

abbrev pub invariant-check_keywords-loop-name : goal.invariant-check_keywords-loop-name
invariant-check_keywords-loop-name g l =
    (after : Trace) (new : List Entry) (answer : Result (Unit {0}) AllocError)
    → Visited (in_turn (λ m. asks (faults (g.H.FormI18n.form_text l.h) l.root l.left) (g.H.FormI18n.form_text l.h) l.root l.schema (keyword_of m.0) m.1 l.tree) l.rest) (g.H.I18n.text l.h) l.trail after l.report new answer
    → Visited (in_turn (λ m. asks (faults (g.H.FormI18n.form_text l.h) l.root l.left) (g.H.FormI18n.form_text l.h) l.root l.schema (keyword_of m.0) m.1 l.tree) l.initial.rest) (g.H.I18n.text l.h) l.initial.trail after l.initial.report new answer

abbrev pub decreases-check_keywords-loop-name : goal.decreases-check_keywords-loop-name
decreases-check_keywords-loop-name g l = length l.rest

abbrev pub invariant-check_each-loop-schema : goal.invariant-check_each-loop-schema
invariant-check_each-loop-schema g l =
    (after : Trace) (new : List Entry) (answer : Result (Unit {0}) AllocError)
    → Visited (in_turn (λ x. faults (g.H.FormI18n.form_text l.h) l.root l.left x l.tree) l.rest) (g.H.I18n.text l.h) l.trail after l.report new answer
    → Visited (in_turn (λ x. faults (g.H.FormI18n.form_text l.h) l.root l.left x l.tree) l.initial.rest) (g.H.I18n.text l.h) l.initial.trail after l.initial.report new answer

abbrev pub decreases-check_each-loop-schema : goal.decreases-check_each-loop-schema
decreases-check_each-loop-schema g l = length l.rest

abbrev pub invariant-check_described-loop-name : goal.invariant-check_described-loop-name
invariant-check_described-loop-name g l =
    (after : Trace) (new : List Entry) (answer : Result (Unit {0}) AllocError)
    → Visited (in_turn (properties_asks (faults (g.H.FormI18n.form_text l.h) l.root l.left) (g.H.FormI18n.form_text l.h) l.tree) l.rest) (g.H.I18n.text l.h) l.trail after l.report new answer
    → Visited (in_turn (properties_asks (faults (g.H.FormI18n.form_text l.h) l.root l.left) (g.H.FormI18n.form_text l.h) l.tree) l.initial.rest) (g.H.I18n.text l.h) l.initial.trail after l.initial.report new answer

abbrev pub decreases-check_described-loop-name : goal.decreases-check_described-loop-name
decreases-check_described-loop-name g l = length l.rest

abbrev pub invariant-check_undescribed-loop-name : goal.invariant-check_undescribed-loop-name
invariant-check_undescribed-loop-name g l =
    (after : Trace) (new : List Entry) (answer : Result (Unit {0}) AllocError)
    → Visited (in_turn (other_asks (faults (g.H.FormI18n.form_text l.h) l.root l.left) l.known l.value) l.rest) (g.H.I18n.text l.h) l.trail after l.report new answer
    → Visited (in_turn (other_asks (faults (g.H.FormI18n.form_text l.h) l.root l.left) l.known l.value) l.initial.rest) (g.H.I18n.text l.h) l.initial.trail after l.initial.report new answer

abbrev pub decreases-check_undescribed-loop-name : goal.decreases-check_undescribed-loop-name
decreases-check_undescribed-loop-name g l = length l.rest

abbrev pub invariant-check_rest-loop-item : goal.invariant-check_rest-loop-item
invariant-check_rest-loop-item g l =
    ((after : Trace) (new : List Entry) (answer : Result (Unit {0}) AllocError)
    → Visited (numbered (item_asks (faults (g.H.FormI18n.form_text l.h) l.root l.left) l.value l.first) l.index l.rest) (g.H.I18n.text l.h) l.trail after l.report new answer
    → Visited (numbered (item_asks (faults (g.H.FormI18n.form_text l.h) l.root l.left) l.value l.first) 0 l.initial.rest) (g.H.I18n.text l.h) l.initial.trail after l.initial.report new answer)
    × (l.index + length l.rest ≡ length l.initial.rest)

abbrev pub decreases-check_rest-loop-item : goal.decreases-check_rest-loop-item
decreases-check_rest-loop-item g l = length l.rest

abbrev pub invariant-check_places-loop-schema : goal.invariant-check_places-loop-schema
invariant-check_places-loop-schema g l =
    ((after : Trace) (new : List Entry) (answer : Result (Unit {0}) AllocError)
    → Visited (by_place (faults (g.H.FormI18n.form_text l.h) l.root l.left) l.index l.schemas l.items) (g.H.I18n.text l.h) l.trail after l.report new answer
    → Visited (by_place (faults (g.H.FormI18n.form_text l.h) l.root l.left) 0 l.initial.schemas l.initial.items) (g.H.I18n.text l.h) l.initial.trail after l.initial.report new answer)
    × (l.index + length l.items ≡ length l.initial.items)

abbrev pub decreases-check_places-loop-schema : goal.decreases-check_places-loop-schema
decreases-check_places-loop-schema g l = length l.schemas

-- a call goes to a function of a lower rank, or asks one schema less
abbrev pub decreases-check : goal.decreases-check
decreases-check g l = 8 * l.left + 0

abbrev pub decreases-check_under : goal.decreases-check_under
decreases-check_under g l = 8 * l.left + 1

abbrev pub decreases-check_keywords : goal.decreases-check_keywords
decreases-check_keywords g l = 8 * l.left + 6

abbrev pub decreases-check_keyword : goal.decreases-check_keyword
decreases-check_keyword g l = 8 * l.left + 5

abbrev pub decreases-check_reference : goal.decreases-check_reference
decreases-check_reference g l = 8 * l.left + 3

abbrev pub decreases-check_target : goal.decreases-check_target
decreases-check_target g l = 8 * l.left + 2

abbrev pub decreases-check_all : goal.decreases-check_all
decreases-check_all g l = 8 * l.left + 4

abbrev pub decreases-check_each : goal.decreases-check_each
decreases-check_each g l = 8 * l.left + 3

abbrev pub decreases-check_properties : goal.decreases-check_properties
decreases-check_properties g l = 8 * l.left + 4

abbrev pub decreases-check_described : goal.decreases-check_described
decreases-check_described g l = 8 * l.left + 3

abbrev pub decreases-check_member : goal.decreases-check_member
decreases-check_member g l = 8 * l.left + 2

abbrev pub decreases-check_others : goal.decreases-check_others
decreases-check_others g l = 8 * l.left + 4

abbrev pub decreases-check_undescribed : goal.decreases-check_undescribed
decreases-check_undescribed g l = 8 * l.left + 3

abbrev pub decreases-check_other : goal.decreases-check_other
decreases-check_other g l = 8 * l.left + 2

abbrev pub decreases-check_items : goal.decreases-check_items
decreases-check_items g l = 8 * l.left + 4

abbrev pub decreases-check_rest : goal.decreases-check_rest
decreases-check_rest g l = 8 * l.left + 3

abbrev pub decreases-check_item : goal.decreases-check_item
decreases-check_item g l = 8 * l.left + 2

abbrev pub decreases-check_prefix : goal.decreases-check_prefix
decreases-check_prefix g l = 8 * l.left + 4

abbrev pub decreases-check_places : goal.decreases-check_places
decreases-check_places g l = 8 * l.left + 3
