use Rattle.std.proofs.Common.{rules, ap, subst, ◌∙◌, Some}
use Rattle.std.specs.List.{All}
use Rattle.garde_schema.specs.Flattened.{others}
use Rattle.garde_schema.specs.Maps.{entry_value, has_name, members_first}
use Rattle.garde_schema.proofs.Lists.{values_from, values_begin, values_next, values_end, all_next, all_end}
use Rattle.garde_schema.proofs.Maps.{SoundEntry, names_first, names_next, names_end, members_as, member_then, member_stop, member_no_room, member_end, sound_entries}
use Rattle.garde_schema.proofs.rest.read_others.Goals as goal

pub loop-name-init : goal.loop-name-init
loop-name-init g c =
    let same = names_first (λ n. has_name c.new-names.result n) (others (λ name. g.M.Members.names c.args.named.now name) c.args.members) c.new-names.ensures in (
      λ after new answer told. members_as (g.H.FormI18n.form_text c.args.h.now) (λ v. g.F.Form.visits c.args.form.now (g.H.FormI18n.form_text c.args.h.now) v) _ _ same told,
      ap (λ es. values_from (entry_value (λ v. g.F.Form.value c.args.form.now v)) (Some c.new.result) es) same ∙ values_begin (entry_value (λ v. g.F.Form.value c.args.form.now v)) c.new.result (members_first (others (λ name. g.M.Members.names c.args.named.now name) c.args.members)) c.new.ensures,
      λ all. subst (λ es. All (SoundEntry (g.H.FormI18n.form_text c.args.h.now) (λ v. g.F.Form.visits c.args.form.now (g.H.FormI18n.form_text c.args.h.now) v) (λ x. g.F.Form.keeps c.args.form.now x) (λ v. g.F.Form.value c.args.form.now v)) es) same all,
    )

pub loop-name-preserved : goal.loop-name-preserved
loop-name-preserved g c =
    let next = names_next (λ n. has_name c.loop-name.names n) (λ n. has_name c.add.new.self n) c.in_ok-came.came (others (λ name. g.M.Members.names c.args.named.now name) c.loop-name.left) _ _ c.in-Some.ensures.steps c.in_ok-came.ensures.came c.in_ok-came.ensures.names in (
      λ after new answer rest. c.loop-name.invariant.0 after new answer (member_then (g.H.FormI18n.form_text c.args.h.now) (λ v. g.F.Form.visits c.args.form.now (g.H.FormI18n.form_text c.args.h.now) v) _ _ _ c.read_entry.result next c.read_entry.ensures.answer (search rules) rest),
      values_next (entry_value (λ v. g.F.Form.value c.args.form.now v)) c.loop-name.values _ _ _ _ next c.in_ok-values.ensures.value ∙ c.loop-name.invariant.1,
      λ all. c.loop-name.invariant.2 (all_next (SoundEntry (g.H.FormI18n.form_text c.args.h.now) (λ v. g.F.Form.visits c.args.form.now (g.H.FormI18n.form_text c.args.h.now) v) (λ x. g.F.Form.keeps c.args.form.now x) (λ v. g.F.Form.value c.args.form.now v)) _ _ _ next c.in_ok-values.ensures.sound all),
    )

pub returns-in_err-came-clause-answer : goal.returns-in_err-came-clause-answer
returns-in_err-came-clause-answer g c = c.loop-name.invariant.0 _ _ _ (member_no_room (g.H.FormI18n.form_text c.args.h.now) (λ v. g.F.Form.visits c.args.form.now (g.H.FormI18n.form_text c.args.h.now) v) (λ n. has_name c.loop-name.names n) (others (λ name. g.M.Members.names c.args.named.now name) c.loop-name.left) _ _ c.from_residual.result c.in-Some.ensures.steps c.from_residual.ensures.0)

pub returns-in_err-values-clause-answer : goal.returns-in_err-values-clause-answer
returns-in_err-values-clause-answer g c =
    let next = names_next (λ n. has_name c.loop-name.names n) (λ n. has_name c.add.new.self n) c.in_ok-came.came (others (λ name. g.M.Members.names c.args.named.now name) c.loop-name.left) _ _ c.in-Some.ensures.steps c.in_ok-came.ensures.came c.in_ok-came.ensures.names in
    c.loop-name.invariant.0 _ _ _ (member_stop (g.H.FormI18n.form_text c.args.h.now) (λ v. g.F.Form.visits c.args.form.now (g.H.FormI18n.form_text c.args.h.now) v) _ _ _ c.read_entry.result c.from_residual-in_err-values.result next c.read_entry.ensures.answer (search rules) c.from_residual-in_err-values.ensures.0)

pub returns-clause-answer : goal.returns-clause-answer
returns-clause-answer g c = c.loop-name.invariant.0 _ _ _ (member_end (g.H.FormI18n.form_text c.args.h.now) (λ v. g.F.Form.visits c.args.form.now (g.H.FormI18n.form_text c.args.h.now) v) _ (names_end (λ n. has_name c.loop-name.names n) (others (λ name. g.M.Members.names c.args.named.now name) c.loop-name.left) c.in_default.ensures.steps))

pub returns-clause-value : goal.returns-clause-value
returns-clause-value g c = values_end (entry_value (λ v. g.F.Form.value c.args.form.now v)) c.loop-name.values _ (names_end (λ n. has_name c.loop-name.names n) (others (λ name. g.M.Members.names c.args.named.now name) c.loop-name.left) c.in_default.ensures.steps) c.loop-name.invariant.1

pub returns-clause-sound : goal.returns-clause-sound
returns-clause-sound g c = sound_entries (g.H.FormI18n.form_text c.args.h.now) (λ v. g.F.Form.visits c.args.form.now (g.H.FormI18n.form_text c.args.h.now) v) (λ x. g.F.Form.keeps c.args.form.now x) (λ v. g.F.Form.value c.args.form.now v) (members_first (others (λ name. g.M.Members.names c.args.named.now name) c.args.members)) (c.loop-name.invariant.2 (all_end (SoundEntry (g.H.FormI18n.form_text c.args.h.now) (λ v. g.F.Form.visits c.args.form.now (g.H.FormI18n.form_text c.args.h.now) v) (λ x. g.F.Form.keeps c.args.form.now x) (λ v. g.F.Form.value c.args.form.now v)) _ (names_end (λ n. has_name c.loop-name.names n) (others (λ name. g.M.Members.names c.args.named.now name) c.loop-name.left) c.in_default.ensures.steps)))
