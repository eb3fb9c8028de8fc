use Rattle.std.proofs.Common.{Err}
use Rattle.garde.proofs.Author.{visited_found}
use Rattle.garde_form.proofs.Lemmas.{bound_applies}
use Rattle.garde_form.proofs.parsed.put_other.Goals as goal

pub returns-in-Err : goal.returns-in-Err
returns-in-Err g c =
    visited_found _ (Err c.in-Err.bound) c.put-in-Err.ensures.valid
    (bound_applies _ _ (g.H.I18n.text c.args.h.now) c.in-Err.bound c.in-Err.ensures)
    c.put-in-Err.ensures.ok c.put-in-Err.ensures.err c.put-in-Err.ensures.unchanged
