use Rattle.std.proofs.Common.{◌≡◌, ◌++◌, map, drop}
use Rattle.garde_form.specs.Members.{named, lists_of}
use Rattle.garde_form.specs.WebForm.{field_texts}
use Rattle.garde_form.proofs.lists.named_texts.Given as goal

-- the lists so far and those of the names that are left are those of all
abbrev pub invariant-loop-name : goal.invariant-loop-name
invariant-loop-name l = map named l.lists.items ++ lists_of (drop l.name-index l.names) (field_texts l.fields) ≡ lists_of l.names (field_texts l.fields)
