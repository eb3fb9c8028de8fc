use Rattle.std.proofs.Common.{rules, sym, ◌∙◌}
use Rattle.garde_described.proofs.Ends.{leads_none, leads_some, leads_zero}
use Rattle.garde_described.proofs.leads.+leads.Goals as goal

pub leads_far-returns-then-left-eq0 : goal.leads_far-returns-then-left-eq0
leads_far-returns-then-left-eq0 t c = sym (leads_zero c.args.root.now c.args.left c.args.schema.now (search rules))

pub leads_far-returns-in-Some : goal.leads_far-returns-in-Some
leads_far-returns-in-Some t c = c.any_leads.ensures ∙ sym (leads_some c.args.root.now c.args.left c.args.schema.now _ (search rules) (sym c.members.ensures.value ∙ c.in-Some.is))

pub leads_far-returns-in-None : goal.leads_far-returns-in-None
leads_far-returns-in-None t c = sym (leads_none c.args.root.now c.args.left c.args.schema.now (search rules) (sym c.members.ensures.value ∙ c.in-None.is))
