use Rattle.std.proofs.Common.{Some, sym, ◌∙◌}
use Rattle.garde.specs.Visits.{Known, found}
use Rattle.garde_schema.specs.Decimals.{decimal_value, no_number}
use Rattle.garde_schema.proofs.Decimals.{no_number_is_fault}
use Rattle.garde_schema.proofs.Lemmas.{on_ok}
use Rattle.garde_schema.proofs.Numbers.{sound_other}
use Rattle.garde_schema.proofs.decimal_number.DecimalNumberForm.read.Goals as goal

pub returns-in-None-clause-sound : goal.returns-in-None-clause-sound
returns-in-None-clause-sound g c =
    let form = c.args.self.now in
    on_ok c.with-in-None.result
    (sound_other (found (Some no_number)) (λ v. g.R.Rules.asks form.0 v) (λ v. Known (g.R.Rules.asks form.0 v)) (decimal_value c.args.tree.now)
    (sym c.decimal_of.ensures ∙ c.in-None.is) no_number_is_fault)
