use Rattle.std.proofs.Common.{sym, subst, ◌∙◌}
use Rattle.std.specs.String.{string_bytes}
use Rattle.example_import.specs.declared.row.Row.{Row}
use Rattle.example_import.specs.Line.{HasCode}
use Rattle.example_import.specs.Import.{Tells}
use Rattle.example_import.proofs.Faults.{not_stored, empty_of}
use Rattle.example_import.proofs.taking.take_row.Goals as goal

pub insert-requires-clause-fresh : goal.insert-requires-clause-fresh
insert-requires-clause-fresh g c s =
    let empty = empty_of c.in-Ok-report_of.report (sym c.is_empty.ensures ∙ c.if-is_empty.true) in
    let none = not_stored (g.H.I18n.text c.args.h.now) c.args.row c.args.index c.in-Ok.is_stored c.in-Ok-report_of.report c.in-Ok-report_of.ensures.report empty in
    let fresh = subst (Tells (string_bytes c.args.row.code) (g.S.Store.lines c.args.store.now)) none (rw c.as_str.ensures.value at (c.in-Ok.ensures.found s)) in
    subst (λ (r : Row). ¬ HasCode (string_bytes r.code) (g.S.Store.lines c.has_code.new.self)) (sym c.known.ensures)
    (subst (λ lines. ¬ HasCode (string_bytes c.args.row.code) lines) (sym (c.in-Ok.ensures.lines s)) fresh)
