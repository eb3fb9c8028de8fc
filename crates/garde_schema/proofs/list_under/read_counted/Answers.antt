use Rattle.std.proofs.Common.{rules, length}
use Rattle.std.specs.List.{All}
use Rattle.garde_schema.specs.Lists.{all_values, each_item}
use Rattle.garde_schema.proofs.Lemmas.{on_ok_then}
use Rattle.garde_schema.proofs.Lists.{counted_then, counted_stop, sound_counted, values_length}
use Rattle.garde_schema.proofs.list_under.read_counted.Goals as goal

pub returns-in_err-ask-clause-answer : goal.returns-in_err-ask-clause-answer
returns-in_err-ask-clause-answer g c = counted_stop (λ n. g.R.Rules.asks c.args.form.now.0 n) _ c.from_residual.result c.requires.counted c.ask.ensures (search rules) c.from_residual.ensures.0

pub returns-clause-answer : goal.returns-clause-answer
returns-clause-answer g c = counted_then (λ n. g.R.Rules.asks c.args.form.now.0 n) _ c.requires.counted c.ask.ensures (search rules) c.read_items.ensures.answer

pub returns-clause-sound : goal.returns-clause-sound
returns-clause-sound g c = on_ok_then c.read_items.result c.read_items.ensures.sound
    (λ sound. sound_counted _ (λ n. g.R.Rules.asks c.args.form.now.0 n) (λ out. All (λ x. g.F.Form.keeps c.args.form.now.1 x) out) (length c.args.items) _ sound (values_length (λ x. g.F.Form.value c.args.form.now.1 x) c.args.items))
