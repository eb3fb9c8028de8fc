use Rattle.std.proofs.Common.{sym, ◌∙◌}
use Rattle.garde.specs.Visits.{Known}
use Rattle.garde_schema.specs.Whole.{is_negative, other_visits}
use Rattle.garde_schema.proofs.Lemmas.{on_ok}
use Rattle.garde_schema.proofs.Numbers.{other_is_fault, sound_other}
use Rattle.garde_schema.proofs.whole.WholeForm.read.Goals as goal

pub returns-in-None-clause-sound : goal.returns-in-None-clause-sound
returns-in-None-clause-sound g c =
    let form = c.args.self.now in
    let texts = g.H.FormI18n.form_text c.args.h.now in
    let integer = g.N.WholeType.integer form.0 in
    let bound = g.R.NumberRules.bound form.1 (g.N.WholeType.nearest form.0 (is_negative c.args.tree.now)) in
    on_ok c.with-in-None.result
    (sound_other (other_visits texts integer bound c.args.tree.now) (λ n. g.R.Rules.asks form.1 n) (λ n. Known (g.R.Rules.asks form.1 n)) (g.N.WholeType.spelled form.0 c.args.tree.now)
    (sym c.spelled.ensures ∙ c.in-None.is) (other_is_fault texts integer bound c.args.tree.now))
