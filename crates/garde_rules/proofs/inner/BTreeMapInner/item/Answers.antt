use Rattle.std.proofs.Common.{sym, ap, ◌∙◌}
use Rattle.std.specs.Prelude.{option_map}
use Rattle.std.proofs.lemmas.Option.{slice_get-map}
use Rattle.garde_rules.proofs.inner.BTreeMapInner.item.Goals as goal

pub returns-in-Some : goal.returns-in-Some
returns-in-Some g c = ap (option_map (λ entry. entry.1)) c.in-Some.ensures ∙ sym (slice_get-map (λ entry. entry.1) c.args.self.now.entries c.args.index)

pub returns-in-None : goal.returns-in-None
returns-in-None g c = ap (option_map (λ entry. entry.1)) c.in-None.ensures ∙ sym (slice_get-map (λ entry. entry.1) c.args.self.now.entries c.args.index)
