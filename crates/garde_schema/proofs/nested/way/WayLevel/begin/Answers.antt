use Rattle.std.proofs.Common.{rules, refl}
use Rattle.json.specs.Find.{as_object}
use Rattle.garde_tape.specs.Reading.{member_list}
use Rattle.garde.specs.Visits.{◌and◌}
use Rattle.garde_schema.specs.Nested.{list_in, list_visits}
use Rattle.garde_schema.proofs.Lemmas.{on_ok, read_and, read_stop}
use Rattle.garde_schema.proofs.Recursion.{sound_begun, sound_no_object, told_list, told_no_list, told_object}
use Rattle.garde_schema.proofs.nested.way.WayLevel.begin.Goals as goal

pub returns-in_default-clause-sound : goal.returns-in_default-clause-sound
returns-in_default-clause-sound g c =
    let texts = g.H.FormI18n.form_text c.args.self.now.h.now in
    on_ok _ (sound_no_object _ c.args.self.now.name.now texts (g.M.Members.visits c.args.self.now.members.now texts c.args.tree.now) (g.M.Members.keeps c.args.self.now.members.now) (g.M.Members.value c.args.self.now.members.now c.args.tree.now)
    (list_in c.args.self.now.name.now c.args.tree.now) member_list (as_object c.args.tree.now) c.in_default.is c.members.ensures.value)

pub returns-in_err-own-clause-answer : goal.returns-in_err-own-clause-answer
returns-in_err-own-clause-answer g c =
    let texts = g.H.FormI18n.form_text c.args.self.now.h.now in
    let own = g.M.Members.visits c.args.self.now.members.now texts c.args.tree.now in
    let list = list_visits c.args.self.now.name.now texts (list_in c.args.self.now.name.now c.args.tree.now) in
    told_object _ (own and list) member_list (as_object c.args.tree.now) c.in-Some.is c.members.ensures.value
    (read_stop own list c.read_members.result c.from_residual.result c.read_members.ensures.answer (search rules) c.from_residual.ensures.0)

pub returns-in-Ok-clause-answer : goal.returns-in-Ok-clause-answer
returns-in-Ok-clause-answer g c =
    let texts = g.H.FormI18n.form_text c.args.self.now.h.now in
    let own = g.M.Members.visits c.args.self.now.members.now texts c.args.tree.now in
    let list = list_visits c.args.self.now.name.now texts (list_in c.args.self.now.name.now c.args.tree.now) in
    told_object _ (own and list) member_list (as_object c.args.tree.now) c.in-Some.is c.members.ensures.value
    (read_and own list c.read_members.result c.read_members.ensures.answer (search rules)
    (told_list c.args.self.now.name.now texts (list_in c.args.self.now.name.now c.args.tree.now) c.in-Ok.is c.items_in.ensures.list) refl)

pub returns-in-Ok-clause-sound : goal.returns-in-Ok-clause-sound
returns-in-Ok-clause-sound g c =
    let texts = g.H.FormI18n.form_text c.args.self.now.h.now in
    sound_begun _ c.args.self.now.name.now texts (g.M.Members.visits c.args.self.now.members.now texts c.args.tree.now) (g.M.Members.keeps c.args.self.now.members.now) (g.M.Members.value c.args.self.now.members.now c.args.tree.now)
    (list_in c.args.self.now.name.now c.args.tree.now) (as_object c.args.tree.now) c.in_ok-own.ensures.sound

pub returns-in-Err-clause-answer : goal.returns-in-Err-clause-answer
returns-in-Err-clause-answer g c =
    let texts = g.H.FormI18n.form_text c.args.self.now.h.now in
    let own = g.M.Members.visits c.args.self.now.members.now texts c.args.tree.now in
    let list = list_visits c.args.self.now.name.now texts (list_in c.args.self.now.name.now c.args.tree.now) in
    told_object _ (own and list) member_list (as_object c.args.tree.now) c.in-Some.is c.members.ensures.value
    (read_and own list c.read_members.result c.read_members.ensures.answer (search rules)
    (told_no_list c.args.self.now.name.now texts (list_in c.args.self.now.name.now c.args.tree.now) c.in-Err.is c.items_in.ensures.list c.put_under.ensures) c.with-in-Err.ensures.answer)

pub returns-in-Err-clause-sound : goal.returns-in-Err-clause-sound
returns-in-Err-clause-sound g c =
    let texts = g.H.FormI18n.form_text c.args.self.now.h.now in
    on_ok _ (sound_begun _ c.args.self.now.name.now texts (g.M.Members.visits c.args.self.now.members.now texts c.args.tree.now) (g.M.Members.keeps c.args.self.now.members.now) (g.M.Members.value c.args.self.now.members.now c.args.tree.now)
    (list_in c.args.self.now.name.now c.args.tree.now) (as_object c.args.tree.now) c.in_ok-own.ensures.sound)
