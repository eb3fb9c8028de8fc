use Rattle.std.proofs.Common.{ap, sym, ◌∙◌}
use Rattle.std.specs.Prelude.{option_map}
use Rattle.garde_described.proofs.Lemmas.{of_none, of_some}
use Rattle.garde_described.proofs.Walks.{present_is, present_there}
use Rattle.garde_described.specs.Faults.{present_asks}
use Rattle.garde_report.specs.Part.{key_part}
use Rattle.garde_tape.specs.Look.{find_answer}
use Rattle.garde_described.proofs.required.check_item.Goals as goal

pub returns-in-Missing : goal.returns-in-Missing
returns-in-Missing g c =
    of_some (λ s. present_asks (g.H.FormI18n.form_text c.args.h.now) (key_part s) (find_answer s c.args.tree.now)) _ _ (sym c.as_str.ensures ∙ ap (option_map (λ s. s.now)) c.in-Some.is)
    (present_is (g.H.FormI18n.form_text c.args.h.now) (key_part c.in-Some.name.now) (sym c.in-Missing.is ∙ c.find.ensures) c.put_under.ensures)

pub returns-in-Once : goal.returns-in-Once
returns-in-Once g c =
    of_some (λ s. present_asks (g.H.FormI18n.form_text c.args.h.now) (key_part s) (find_answer s c.args.tree.now)) _ _ (sym c.as_str.ensures ∙ ap (option_map (λ s. s.now)) c.in-Some.is)
    (present_is (g.H.FormI18n.form_text c.args.h.now) (key_part c.in-Some.name.now) c.find.ensures (present_there (g.H.FormI18n.form_text c.args.h.now) (key_part c.in-Some.name.now) _ c.in-Once.is))

pub returns-in-None : goal.returns-in-None
returns-in-None g c = of_none (λ s. present_asks (g.H.FormI18n.form_text c.args.h.now) (key_part s) (find_answer s c.args.tree.now)) _ (sym c.as_str.ensures ∙ ap (option_map (λ s. s.now)) c.in-None.is)
