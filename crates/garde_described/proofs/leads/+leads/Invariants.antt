use Rattle.std.proofs.Common.{◌≡◌, ◌+◌, ◌*◌, length}
use Rattle.std.specs.List.{list_any}
use Rattle.garde_described.specs.Keywords.{keyword_of}
use Rattle.garde_described.specs.Links.{leads_far, step_leads}
use Rattle.garde_described.proofs.leads.+leads.Given as goal

-- one of what is left leads far exactly where one of all does
abbrev pub invariant-any_leads-loop-name : goal.invariant-any_leads-loop-name
invariant-any_leads-loop-name l = list_any (λ m. step_leads (leads_far l.root l.left) l.root (keyword_of m.0) m.1) l.rest ≡ list_any (λ m. step_leads (leads_far l.root l.left) l.root (keyword_of m.0) m.1) l.initial.rest

abbrev pub decreases-any_leads-loop-name : goal.decreases-any_leads-loop-name
decreases-any_leads-loop-name l = length l.rest

abbrev pub invariant-item_leads-loop-schema : goal.invariant-item_leads-loop-schema
invariant-item_leads-loop-schema l = list_any (leads_far l.root l.left) l.rest ≡ list_any (leads_far l.root l.left) l.initial.rest

abbrev pub decreases-item_leads-loop-schema : goal.decreases-item_leads-loop-schema
decreases-item_leads-loop-schema l = length l.rest

-- a call goes to a function of a lower rank, or one schema on
abbrev pub decreases-leads_far : goal.decreases-leads_far
decreases-leads_far l = 4 * l.left

abbrev pub decreases-any_leads : goal.decreases-any_leads
decreases-any_leads l = 4 * l.left + 3

abbrev pub decreases-keyword_leads : goal.decreases-keyword_leads
decreases-keyword_leads l = 4 * l.left + 2

abbrev pub decreases-target_leads : goal.decreases-target_leads
decreases-target_leads l = 4 * l.left + 1

abbrev pub decreases-item_leads : goal.decreases-item_leads
decreases-item_leads l = 4 * l.left + 1
