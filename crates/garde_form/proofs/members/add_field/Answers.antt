use Rattle.std.proofs.Common.{◌++◌, ◌∷◌, [], map, sym, ap, ◌∙◌}
use Rattle.json.specs.Json.{array, member}
use Rattle.garde_tape.specs.Reading.{member_list}
use Rattle.garde_tape.specs.Texts.{field_list}
use Rattle.garde_tape.specs.declared.field.FieldValue.TheVariants.{Text, Texts}
use Rattle.garde_form.specs.Members.{list_under, unseen}
use Rattle.garde_form.specs.WebForm.{is_listed, items_of_texts, texts_of, value_of}
use Rattle.garde_form.proofs.Listed.{at_field, at_first, is_not_there, is_there, one_member, past_seen, these_items, under_listed}
use Rattle.garde_form.proofs.members.add_field.Goals as goal

pub returns-then-is_among : goal.returns-then-is_among
returns-then-is_among c = λ names all is. record {
  members = λ others. ap (λ left. field_list c.args.members.now.items ++ member_list left) (past_seen names c.args.seen.now.items c.args.name.now (value_of names all c.args.name.now c.args.text.now) others (cc));
}

pub returns-in_ok-push-in-Some-2 : goal.returns-in_ok-push-in-Some-2
returns-in_ok-push-in-Some-2 c = λ names all is.
    let a = c.args in
    let seen = a.seen.now.items in
    let there = is_there (is_listed names a.name.now) (map (λ s. s.now) c.in-Some.texts.now) (texts_of a.name.now all) (c.in-Some.ensures ∙ ap (list_under a.name.now) is ∙ under_listed a.name.now names all) in
    record {
      members = λ others.
          let left = unseen (seen ++ a.name ∷ []) others in
          ap (λ seen. field_list c.push-in-Some.new.self.items ++ member_list (unseen seen others)) c.in_ok-push-in-Some.ensures.items
          ∙ one_member a.members.now.items c.push-in-Some.new.self.items a.name (Texts c.in-Some.texts) left _ c.in_ok-push-in-Some-2.ensures.items
          (at_first names seen all a.name a.text.now others (cc) there.0 ∙ ap (λ items. member a.name.now (array items) left) (ap items_of_texts (sym there.1) ∙ sym (these_items c.in-Some.texts.now)));
    }

pub returns-in_ok-push-in-None : goal.returns-in_ok-push-in-None
returns-in_ok-push-in-None c = λ names all is.
    let a = c.args in
    let none = is_not_there (is_listed names a.name.now) (texts_of a.name.now all) (c.in-None.ensures ∙ ap (list_under a.name.now) is ∙ under_listed a.name.now names all) in
    record {
      members = λ others. one_member a.members.now.items c.push-in-None.new.self.items a.name (Text a.text) (unseen a.seen.now.items others) _ c.in_ok-push-in-None.ensures.items (at_field names a.seen.now.items all a.name.now a.text.now others (cc) none);
    }
