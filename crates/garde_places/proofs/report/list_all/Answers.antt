use Rattle.std.proofs.Common.{ℕ, List, ap, subst, ◌∙◌}
use Rattle.json.specs.Json.{document}
use Rattle.garde_places.specs.Listed.{AreListed}
use Rattle.garde_tape.specs.declared.place.Place.{Place}
use Rattle.garde_places.proofs.report.list_all.Goals as goal

-- the places are those of the list that is given, in the text that is given
pub returns-in-Ok-clause-places : goal.returns-in-Ok-clause-places
returns-in-Ok-clause-places c = λ j e.
    subst (λ places. AreListed places j c.in-Ok.faults.items) (ap (λ (it : List ℕ × List Place). it.1) c.of.ensures)
    (c.in-Ok.ensures.places j (ap document (ap (λ (it : List ℕ × List Place). it.0) c.of.ensures) ∙ e))
