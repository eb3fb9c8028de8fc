use Rattle.std.proofs.Common.{IsErr, IsOk, map, refl, subst, sym}
use Rattle.garde.proofs.Author.{visited_then}
use Rattle.garde_catalog.specs.Lines.{read}
use Rattle.garde_catalog.specs.Messages.{message_of}
use Rattle.garde_catalog.proofs.LinesRead.{not_begun, not_made, of_these, on_ok, sound_lines, then_made}
use Rattle.garde_catalog.proofs.LinesSoFar.{both_lines}
use Rattle.garde_catalog.proofs.table_texts.TableTextsMembers.read_members.Goals as goal

pub returns-in_err-check_lines-clause-answer : goal.returns-in_err-check_lines-clause-answer
returns-in_err-check_lines-clause-answer g c =
    let first = of_these c.args.self.now.may_lack (g.H.FormI18n.form_text c.args.h.now) c.args.object.now c.messages.ensures c.check_lines.ensures in
    not_begun _ _ c.check_lines.result c.from_residual.result first (subst IsErr (sym c.in_err-check_lines.was) refl) c.from_residual.ensures.0

pub returns-in_err-check_lines-2-clause-answer : goal.returns-in_err-check_lines-2-clause-answer
returns-in_err-check_lines-2-clause-answer g c =
    let first = of_these c.args.self.now.may_lack (g.H.FormI18n.form_text c.args.h.now) c.args.object.now c.messages.ensures c.check_lines.ensures in
    let both = visited_then _ _ first (subst IsOk (sym c.in_ok-check_lines.was) refl) c.check_lines-2.ensures in
    not_made _ c.check_lines-2.result c.from_residual-in_err-check_lines-2.result both (subst IsErr (sym c.in_err-check_lines-2.was) refl) c.from_residual-in_err-check_lines-2.ensures.0

pub returns-in_err-table-clause-answer : goal.returns-in_err-table-clause-answer
returns-in_err-table-clause-answer g c =
    let first = of_these c.args.self.now.may_lack (g.H.FormI18n.form_text c.args.h.now) c.args.object.now c.messages.ensures c.check_lines.ensures in
    let both = visited_then _ _ first (subst IsOk (sym c.in_ok-check_lines.was) refl) c.check_lines-2.ensures in
    then_made _ c.check_lines-2.result c.from_residual-in_err-table.result both (subst IsOk (sym c.in_ok-check_lines-2.was) refl)

pub returns-clause-answer : goal.returns-clause-answer
returns-clause-answer g c =
    let first = of_these c.args.self.now.may_lack (g.H.FormI18n.form_text c.args.h.now) c.args.object.now c.messages.ensures c.check_lines.ensures in
    let both = visited_then _ _ first (subst IsOk (sym c.in_ok-check_lines.was) refl) c.check_lines-2.ensures in
    then_made _ c.check_lines-2.result c.read_lines-2.result both (subst IsOk (sym c.in_ok-check_lines-2.was) refl)

pub returns-clause-value : goal.returns-clause-value
returns-clause-value g c =
    both_lines c.args.self.now.may_lack c.args.object.now c.new.result c.in_ok-table.table (read c.args.self.now.may_lack c.args.object.now (map message_of c.args.self.now.own.now)) c.read_lines-2.result
    c.new.ensures c.messages-2.ensures c.in_ok-table.ensures c.read_lines-2.ensures

pub returns-clause-sound : goal.returns-clause-sound
returns-clause-sound g c = on_ok c.read_lines-2.result (sound_lines c.args.self.now.may_lack (g.H.FormI18n.form_text c.args.h.now) c.args.object.now (map message_of c.args.self.now.own.now))
