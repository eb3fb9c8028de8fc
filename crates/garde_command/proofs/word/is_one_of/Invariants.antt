use Rattle.std.proofs.Common.{◌≡◌, drop}
use Rattle.garde_command.specs.Word.{is_one_of}
use Rattle.garde_command.proofs.word.is_one_of.Given as goal

-- the word is one of the options if it is one of those that are left
abbrev pub invariant-loop-option : goal.invariant-loop-option
invariant-loop-option l = is_one_of (drop l.option-index l.options) l.word ≡ is_one_of l.options l.word
