use Rattle.std.proofs.Common.{◌≡◌, ◌++◌, drop, map}
use Rattle.garde_form.specs.WebForm.{field_texts}
use Rattle.use_signup.proofs.page.typed_of.Given as goal

-- those that were taken, and then those to come, are all
abbrev pub invariant-loop-name : goal.invariant-loop-name
invariant-loop-name l =
    map (λ t. (t.0.now, t.1.now)) l.typed.items ++ field_texts (drop l.name-index l.fields) ≡ field_texts l.fields
