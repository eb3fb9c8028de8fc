use Rattle.std.proofs.Common.{◌≡◌, drop, map}
use Rattle.garde_catalog.specs.Lines.{joined, read}
use Rattle.garde_catalog.specs.Messages.{message_of}
use Rattle.garde_catalog.proofs.table_texts.read_lines.Given as goal

-- the lines so far and those of the messages that are left are all lines
abbrev pub invariant-loop-code : goal.invariant-loop-code
invariant-loop-code l =
    joined l.table (read l.may_lack l.object (map message_of (drop l.code-index l.messages))) ≡ joined l.fn.before (read l.may_lack l.object (map message_of l.messages))
