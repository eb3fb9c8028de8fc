use Rattle.std.proofs.Common.{◌≡◌, ◌++◌, map}
use Rattle.form_urlencoded.specs.Parse.{pairs_left}
use Rattle.garde_form.specs.WebForm.{fields_in, field_texts, text_of}
use Rattle.garde_form.proofs.web_form.form_fields.Given as goal

-- the fields so far and the pairs that are left are those of the body
abbrev pub invariant-loop-pair : goal.invariant-loop-pair
invariant-loop-pair l = field_texts l.fields.items ++ map (λ p. (text_of p.0, text_of p.1)) (pairs_left l.pair-iterator) ≡ fields_in l.body
