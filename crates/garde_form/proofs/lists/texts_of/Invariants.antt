use Rattle.std.proofs.Common.{◌≡◌, ◌++◌, map, drop}
use Rattle.garde_form.specs.WebForm.{field_texts, texts_of}
use Rattle.garde_form.proofs.lists.texts_of.Given as goal

-- the texts so far and those of the fields that are left are those of all
abbrev pub invariant-loop-field : goal.invariant-loop-field
invariant-loop-field l = map (λ s. s.now) l.texts.items ++ texts_of l.name (field_texts (drop l.field-index l.fields)) ≡ texts_of l.name (field_texts l.fields)
