use Rattle.std.proofs.Common.{◌≡◌, drop}
use Rattle.use_signup.specs.Labels.{label_of}
use Rattle.use_signup.proofs.labels.label_of.Given as goal

-- the label is that of a field which is left
abbrev pub invariant-loop-field : goal.invariant-loop-field
invariant-loop-field l =
    label_of (drop l.field-index l.fields) l.name ≡ label_of l.fields l.name
