use Rattle.std.proofs.Common.{Some, Err}
use Rattle.std.specs.Cow.{cow_str_bytes}
use Rattle.garde.specs.Fields.{own}
use Rattle.garde.proofs.Author.{visited_found}
use Rattle.garde_form.proofs.Lemmas.{own_applies}
use Rattle.garde_form.proofs.put.put.Goals as goal

pub returns : goal.returns
returns g c = λ message is. visited_found (Some (own message)) (Err c.of.result) c.put.ensures.valid (own_applies cow_str_bytes message (g.H.I18n.text c.args.h.now) c.args.text c.of.result c.of.ensures.message is) c.put.ensures.ok c.put.ensures.err c.put.ensures.unchanged
