use Rattle.std.proofs.Common.{◌≡◌, string_bytes, take}
use Rattle.garde_catalog.specs.Spoken.{tags_text}
use Rattle.garde_catalog.proofs.spoken.tags_of.Given as goal

abbrev pub invariant-loop-language : goal.invariant-loop-language
invariant-loop-language l = string_bytes l.tags ≡ tags_text (take l.language-index l.languages)
