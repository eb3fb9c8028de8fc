use Rattle.std.proofs.Common.{sym, subst}
use Rattle.std.proofs.lemmas.List.{get_or-replicate}
use Rattle.garde_places.specs.Marks.{MarkHolds, start}
use Rattle.garde_places.proofs.Marking.{start_holds}
use Rattle.garde_places.proofs.find.no_marks.Goals as goal

pub returns : goal.returns
returns c ts k less = subst (MarkHolds ts) (sym (get_or-replicate 128 k start start less)) (start_holds ts)
