use Rattle.std.proofs.Common.{Some, Err}
use Rattle.std.specs.Cow.{cow_str_bytes}
use Rattle.garde.specs.Fields.{own}
use Rattle.garde.proofs.Author.{visited_found}
use Rattle.garde_schema.specs.declared.fault.FormFault.TheVariants.{RowLength}
use Rattle.garde_rows.proofs.Whole.{own_applies}
use Rattle.garde_rows.proofs.put.put_other_count.Goals as goal

pub returns : goal.returns
returns g c =
    let message = g.H.FormI18n.form_text c.args.h.now RowLength in
    visited_found (Some (own message)) (Err c.of.result) c.put.ensures.valid
    (own_applies cow_str_bytes message (g.H.I18n.text c.args.h.now) c.form_fault-text.result c.of.result c.of.ensures.message c.form_fault-text.ensures) c.put.ensures.ok c.put.ensures.err c.put.ensures.unchanged
