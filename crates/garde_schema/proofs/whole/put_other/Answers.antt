use Rattle.std.proofs.Common.{Err, subst, ap, ◌∙◌}
use Rattle.garde.proofs.Author.{visited_found}
use Rattle.garde_schema.specs.Bound.{TellsBound}
use Rattle.garde_schema.specs.Whole.{is_whole}
use Rattle.garde_schema.proofs.Numbers.{bound_applies}
use Rattle.garde_schema.proofs.whole.put_other.Goals as goal

pub returns : goal.returns
returns g c =
    let near = c.nearest-nearest.ensures ∙ ap (g.N.WholeType.nearest c.args.form.now.0) c.is_negative.ensures in
    let tells = subst (λ n. TellsBound (g.R.NumberRules.bound c.args.form.now.1 n) (g.H.I18n.text c.args.h.now) (Err c.in-Err.bound)) near c.in-Err.ensures in
    visited_found _ (Err c.in-Err.bound) c.put-in-Err.ensures.valid
    (bound_applies (is_whole c.args.tree.now) _ _ _ (g.H.I18n.text c.args.h.now) c.in-Err.bound (cc) tells)
    c.put-in-Err.ensures.ok c.put-in-Err.ensures.err c.put-in-Err.ensures.unchanged
