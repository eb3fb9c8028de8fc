use Rattle.std.proofs.Common.{◌∙◌, ap}
use Rattle.std.specs.Cow.{cow_str_bytes}
use Rattle.std.specs.Prelude.{option_map}
use Rattle.garde_i18n.specs.DatumOf.{named_of}
use Rattle.garde_rules.specs.{rule}
use Rattle.garde_catalog.specs.Messages.{message_of}
use Rattle.garde_catalog.specs.Template.{fault_datum}
use Rattle.garde_catalog.proofs.LinesRead.{fault_applies, its_fault}
use Rattle.garde_catalog.proofs.table_texts.IsTextOfRuleTextRef.find.Goals as goal

pub returns-in-None : goal.returns-in-None
returns-in-None g c =
    its_fault (message_of c.args.self.now.0) c.args.value.now c.text.ensures c.template_fault.ensures
    ∙ ap (option_map (λ found. rule (fault_datum found))) c.in-None.is

pub returns-in-Some : goal.returns-in-Some
returns-in-Some g c =
    fault_applies cow_str_bytes (fault_datum c.in-Some.fault) (named_of c.as_named.result) (g.H.I18n.text c.args.h.now) c.named.result c.of.result
    (its_fault (message_of c.args.self.now.0) c.args.value.now c.text.ensures c.template_fault.ensures
    ∙ ap (option_map (λ found. rule (fault_datum found))) c.in-Some.is)
    c.as_named.ensures c.of.ensures.message c.named.ensures
