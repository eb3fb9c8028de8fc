use Rattle.std.proofs.Common.{◌≡◌, false, map, take}
use Rattle.garde_catalog.specs.Lines.{is_name}
use Rattle.garde_catalog.specs.Messages.{message_of}
use Rattle.garde_catalog.proofs.table_texts.is_name.Given as goal

-- none of the messages so far has the code
abbrev pub invariant-loop-code : goal.invariant-loop-code
invariant-loop-code l = is_name (map message_of (take l.code-index l.messages)) l.name ≡ false
