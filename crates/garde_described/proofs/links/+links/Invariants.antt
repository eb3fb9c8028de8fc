use Rattle.std.proofs.Common.{◌≡◌, ◌+◌, ◌*◌, false, List, Result, length}
use Rattle.std.specs.declared.alloc.AllocError.{AllocError}
use Rattle.garde_report.specs.Report.{Entry}
use Rattle.garde_report.specs.Trace.{Trace}
use Rattle.garde.specs.Visits.{Visited}
use Rattle.garde_described.specs.Faults.{in_turn, numbered}
use Rattle.garde_described.specs.Links.{item_links, links, member_links, one_link}
use Rattle.garde_described.proofs.links.+links.Given as goal

-- a visit of what is left makes a visit of all

abbrev pub invariant-check_keywords-loop-name : goal.invariant-check_keywords-loop-name
invariant-check_keywords-loop-name g l =
    (after : Trace) (new : List Entry) (answer : Result (Unit {0}) AllocError)
    → Visited (in_turn (one_link (links (g.H.FormI18n.form_text l.h) l.root l.left false) (g.H.FormI18n.form_text l.h) l.root l.is_whole l.schema) l.rest) (g.H.I18n.text l.h) l.trail after l.report new answer
    → Visited (in_turn (one_link (links (g.H.FormI18n.form_text l.h) l.root l.left false) (g.H.FormI18n.form_text l.h) l.root l.is_whole l.schema) l.initial.rest) (g.H.I18n.text l.h) l.initial.trail after l.initial.report new answer

abbrev pub decreases-check_keywords-loop-name : goal.decreases-check_keywords-loop-name
decreases-check_keywords-loop-name g l = length l.rest

abbrev pub invariant-check_each-loop-name : goal.invariant-check_each-loop-name
invariant-check_each-loop-name g l =
    (after : Trace) (new : List Entry) (answer : Result (Unit {0}) AllocError)
    → Visited (in_turn (member_links (links (g.H.FormI18n.form_text l.h) l.root l.left false)) l.rest) (g.H.I18n.text l.h) l.trail after l.report new answer
    → Visited (in_turn (member_links (links (g.H.FormI18n.form_text l.h) l.root l.left false)) l.initial.rest) (g.H.I18n.text l.h) l.initial.trail after l.initial.report new answer

abbrev pub decreases-check_each-loop-name : goal.decreases-check_each-loop-name
decreases-check_each-loop-name g l = length l.rest

abbrev pub invariant-check_places-loop-schema : goal.invariant-check_places-loop-schema
invariant-check_places-loop-schema g l =
    ((after : Trace) (new : List Entry) (answer : Result (Unit {0}) AllocError)
    → Visited (numbered (item_links (links (g.H.FormI18n.form_text l.h) l.root l.left false)) l.index l.rest) (g.H.I18n.text l.h) l.trail after l.report new answer
    → Visited (numbered (item_links (links (g.H.FormI18n.form_text l.h) l.root l.left false)) 0 l.initial.rest) (g.H.I18n.text l.h) l.initial.trail after l.initial.report new answer)
    × (l.index + length l.rest ≡ length l.initial.rest)

abbrev pub decreases-check_places-loop-schema : goal.decreases-check_places-loop-schema
decreases-check_places-loop-schema g l = length l.rest

-- a call goes to a function of a lower rank, or one level down
abbrev pub decreases-check_links : goal.decreases-check_links
decreases-check_links g l = 8 * l.left

abbrev pub decreases-check_keywords : goal.decreases-check_keywords
decreases-check_keywords g l = 8 * l.left + 6

abbrev pub decreases-check_named : goal.decreases-check_named
decreases-check_named g l = 8 * l.left + 5

abbrev pub decreases-check_keyword : goal.decreases-check_keyword
decreases-check_keyword g l = 8 * l.left + 4

abbrev pub decreases-check_members : goal.decreases-check_members
decreases-check_members g l = 8 * l.left + 3

abbrev pub decreases-check_each : goal.decreases-check_each
decreases-check_each g l = 8 * l.left + 2

abbrev pub decreases-check_items : goal.decreases-check_items
decreases-check_items g l = 8 * l.left + 3

abbrev pub decreases-check_places : goal.decreases-check_places
decreases-check_places g l = 8 * l.left + 2

abbrev pub decreases-check_under : goal.decreases-check_under
decreases-check_under g l = 8 * l.left + 1
