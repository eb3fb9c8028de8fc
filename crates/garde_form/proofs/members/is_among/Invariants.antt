use Rattle.std.proofs.Common.{◌≡◌, drop}
use Rattle.garde_form.specs.WebForm.{is_listed}
use Rattle.garde_form.proofs.members.is_among.Given as goal

-- the answer of the names that are left is that of all
abbrev pub invariant-loop-name : goal.invariant-loop-name
invariant-loop-name l = is_listed (drop l.name-index l.names) l.text ≡ is_listed l.names l.text
