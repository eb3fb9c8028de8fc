use Rattle.std.proofs.Common.{rules, ◌++◌, ap, ◌∙◌}
use Rattle.std.specs.Cow.{cow_str_bytes}
use Rattle.garde_tape.specs.Reading.{member_list}
use Rattle.garde_tape.specs.Texts.{field_list}
use Rattle.garde_form.specs.Members.{unseen}
use Rattle.garde_form.specs.WebForm.{field_texts, first_of_lists, members_of_fields}
use Rattle.garde_form.proofs.Listed.{all_members, all_unseen, next_field, none_left}
use Rattle.garde_form.proofs.members.form_members.Goals as goal

pub loop-field-init : goal.loop-field-init
loop-field-init c = λ names is.
    let fields = field_texts c.args.fields.now in
    let whole = first_of_lists names (members_of_fields names fields fields) in
    ap (λ members. field_list members ++ member_list (unseen c.new-seen.result.items whole)) c.in_ok-members.ensures.items
    ∙ ap (λ seen. member_list (unseen seen whole)) c.new-seen.ensures.items
    ∙ ap member_list (all_unseen whole)

pub loop-field-preserved : goal.loop-field-preserved
loop-field-preserved c = λ names is.
    next_field names c.loop-field.seen.items c.add_field.new.seen.items c.args.fields.now c.loop-field.field-index _ _ _ c.loop-field.members.items c.add_field.new.members.items _ (search rules)
    (c.as_str.ensures.value ∙ ap (λ f. cow_str_bytes f.0) c.field-item.is) (c.as_str-in-loop-field.ensures.value ∙ ap (λ f. cow_str_bytes f.1) c.field-item.is) (c.in_ok-add_field.ensures names (field_texts c.args.fields.now) is) (c.loop-field.invariant names is)

pub returns : goal.returns
returns c = λ names is.
    let fields = field_texts c.args.fields.now in
    all_members c.loop-field.members.items _ (first_of_lists names (members_of_fields names fields fields)) (c.loop-field.invariant names is)
    (none_left names c.loop-field.seen.items c.args.fields.now c.loop-field.field-index (search rules))
