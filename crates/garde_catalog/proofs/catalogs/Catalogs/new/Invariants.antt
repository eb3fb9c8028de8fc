use Rattle.std.proofs.Common.{◌≡◌, take}
use Rattle.std.specs.List.{AllZip}
use Rattle.garde_catalog.specs.Catalogs.{IsOfLanguage}
use Rattle.garde_catalog.proofs.catalogs.Catalogs.new.Given as goal

abbrev pub invariant-loop-language : goal.invariant-loop-language
invariant-loop-language l = (l.languages.items ≡ take l.language-index l.offered) × AllZip IsOfLanguage (take l.language-index l.offered) l.catalogs.items
