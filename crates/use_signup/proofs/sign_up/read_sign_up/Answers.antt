-- Written by tools/port-garde from sign_up.garde.rs: edit that file, not this one. Its sum is 3a8457329a82775f.
use Rattle.std.proofs.Common.{refl, sym}
use Rattle.use_signup.proofs.sign_up.read_sign_up.Goals as goal

pub returns-in-Ok-clause-answer : goal.returns-in-Ok-clause-answer
returns-in-Ok-clause-answer g c known = record {
  lists = c.listed-lists.result;
  named = c.listed-lists.ensures;
  is = c.in-Ok.ensures.answer (λ e. let q = e in cc);
}

pub returns-in-Ok-clause-value : goal.returns-in-Ok-clause-value
returns-in-Ok-clause-value g c = record {
  lists = c.listed-lists.result;
  named = c.listed-lists.ensures;
  is = rw c.known.ensures c.in-Ok.ensures.value;
}

pub returns-in-Err-clause-answer : goal.returns-in-Err-clause-answer
returns-in-Err-clause-answer g c known = record {
  lists = c.listed-lists.result;
  named = c.listed-lists.ensures;
  is = c.in-Err.ensures.answer (λ e. known (let q = e in cc));
}
