use Rattle.std.proofs.Common.{Some, Err}
use Rattle.std.specs.Cow.{cow_str_bytes}
use Rattle.garde.specs.Fields.{own}
use Rattle.garde.proofs.Author.{visited_found}
use Rattle.garde_described.proofs.Lemmas.{own_applies}
use Rattle.garde_described.proofs.put.put.Goals as goal

pub returns : goal.returns
returns g c = visited_found (Some (own (g.H.FormI18n.form_text c.args.h.now c.args.fault))) (Err c.of.result) c.put.ensures.valid (own_applies cow_str_bytes (g.H.FormI18n.form_text c.args.h.now c.args.fault) (g.H.I18n.text c.args.h.now) c.form_fault-text.result c.of.result c.of.ensures.message c.form_fault-text.ensures) c.put.ensures.ok c.put.ensures.err c.put.ensures.unchanged
