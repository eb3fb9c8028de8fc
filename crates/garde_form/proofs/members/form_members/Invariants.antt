use Rattle.std.proofs.Common.{◌≡◌, ◌++◌, ℕ, List, map, drop}
use Rattle.std.specs.Borrow.{Bor}
use Rattle.garde_tape.specs.Reading.{member_list}
use Rattle.garde_tape.specs.Texts.{field_list}
use Rattle.garde_form.specs.Members.{named, lists_of, unseen}
use Rattle.garde_form.specs.WebForm.{field_texts, first_of_lists, members_of_fields}
use Rattle.garde_form.proofs.members.form_members.Given as goal

-- the members so far and those of the fields that are left are those of all
abbrev pub invariant-loop-field : goal.invariant-loop-field
invariant-loop-field l = (names : List (Bor (List ℕ))) → map named l.lists ≡ lists_of names (field_texts l.fields)
    → field_list l.members.items ++ member_list (unseen l.seen.items (first_of_lists names (members_of_fields names (field_texts l.fields) (field_texts (drop l.field-index l.fields)))))
    ≡ member_list (first_of_lists names (members_of_fields names (field_texts l.fields) (field_texts l.fields)))
