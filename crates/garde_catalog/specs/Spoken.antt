-- The catalog of the language that a command line asks for.
use Rattle.std.specs.Prelude.{◌≡◌, ◌⊎◌, ℕ, List, [], ◌∷◌, IsTrue, Option, Some, None, string_bytes}
use Rattle.std.specs.Borrow.{Bor}
use Rattle.std.specs.List.{flat_map}
use Rattle.garde_catalog.specs.Catalog.{Entry, IsCatalog, IsRefusal}
use Rattle.garde_catalog.specs.Field.{is_range}
use Rattle.garde_catalog.specs.Lookup.{HasNone, IsFound, IsThere}
use Rattle.garde_catalog.specs.declared.catalog.Catalog.{Catalog}
use Rattle.garde_catalog.specs.declared.fault.CatalogError.TheVariants.{Memory}
use Rattle.garde_catalog.specs.declared.language.Language.{Language}
use Rattle.garde_catalog.specs.declared.spoken.SpokenError.{SpokenError}
use Rattle.garde_catalog.specs.declared.spoken.SpokenError.TheVariants as errors

-- the table is that of the language of this tag, which is well-formed, or the other one without a tag
abbrev pub AreOf : Option (Bor (List ℕ)) → List Language → List Entry → List Entry → Type 0
AreOf None offered otherwise table = table ≡ otherwise
AreOf (Some tag) offered otherwise table =
    IsTrue (is_range tag.now) × (language : Language)
    × IsThere offered (IsFound offered tag.now) (Some language) × (table ≡ language.table.now)

-- a tag is ill-formed, or asks for no language that is offered
abbrev pub IsOfNone : Option (Bor (List ℕ)) → List Language → Type 0
IsOfNone None offered = ⊥
IsOfNone (Some tag) offered = IsTrue (is_range tag.now) → HasNone offered tag.now

-- the catalog is that of the language of this tag, or of the other table without a tag
abbrev pub IsSpoken : Option (Bor (List ℕ)) → List Language → List Entry → Catalog → Type 0
IsSpoken tag offered otherwise catalog =
    (table : List Entry) × AreOf tag offered otherwise table × IsCatalog table [] catalog

-- the tags of languages, each behind a space
abbrev pub tags_text : List Language → List ℕ
tags_text languages = flat_map (λ language. 32 ∷ language.tag.now) languages

-- why there is no catalog: no language that is offered is asked for, and the error lists the tags; or no catalog is made of the table that is; or memory runs out
abbrev pub IsNotSpoken : Option (Bor (List ℕ)) → List Language → List Entry → SpokenError → Type 0
IsNotSpoken tag offered otherwise (errors.NoLanguage tags) = (string_bytes tags ≡ tags_text offered) × IsOfNone tag offered
IsNotSpoken tag offered otherwise (errors.Catalog error) =
    ((table : List Entry) × AreOf tag offered otherwise table × IsRefusal table [] error) ⊎ (error ≡ Memory)
