use Rattle.std.proofs.Common.{◌≡◌, ◌∷◌, [], MatchOption, take}
use Rattle.garde_catalog.specs.Catalog.{texts_under}
use Rattle.garde_catalog.proofs.lines.text_under.Given as goal

abbrev pub invariant-loop-name : goal.invariant-loop-name
invariant-loop-name l = MatchOption l.found (texts_under l.code (take l.name-index l.entries) ≡ [])
    (λ text. texts_under l.code (take l.name-index l.entries) ≡ text.now ∷ [])
