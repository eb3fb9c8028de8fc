use Rattle.std.proofs.Common.{◌≡◌, ◌++◌, None, map, option_map, string_bytes}
use Rattle.garde_command.specs.Word.{parted, spelled}
use Rattle.garde_command.proofs.word.parted.Given as goal

-- the words so far, and those that the texts which are left become
abbrev pub invariant-loop-text : goal.invariant-loop-text
invariant-loop-text l =
    map spelled l.words.items ++ parted l.options (option_map string_bytes l.open) (map string_bytes l.text-iterator.rest.items)
    ≡ parted l.options None (map string_bytes l.fn.texts.items)
