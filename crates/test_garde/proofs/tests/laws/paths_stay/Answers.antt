use Rattle.std.proofs.Common.{◌≡◌, ℕ, List, [], ◌∷◌, map, refl, sym, ap, ◌∙◌}
use Rattle.garde_i18n.specs.Datum.{Datum}
use Rattle.garde_report.specs.Part.{Part}
use Rattle.garde_report.specs.Report.{Entry}
use Rattle.garde.specs.Fields.{Fault}
use Rattle.garde.specs.Reading.{entry_of}
use Rattle.test_garde.proofs.tests.laws.paths_stay.Goals as goal

abbrev paths : List Entry → List (List Part)
paths = map (λ (e : Entry). e.0)

-- what is reported for a fault stands at the path of the fault
told_paths : (one other : Datum → List ℕ) (faults : List (List Part × Fault)) → paths (map (entry_of one) faults) ≡ paths (map (entry_of other) faults)
told_paths one other [] = refl
told_paths one other (at ∷ faults) = ap (λ l. at.0 ∷ l) (told_paths one other faults)

pub returns : goal.returns
returns c t one other =
    ap paths (c.read_by_handler.ensures t one) ∙ told_paths one other _ ∙ sym (ap paths (c.read_by_handler.ensures t other))
