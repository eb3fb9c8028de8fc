-- The catalogs of several languages.
use Rattle.std.specs.Prelude.{◌≡◌, ◌∷◌, ◌++◌, ◌⊎◌, ℕ, List, [], Option, Some, None, slice_get, unwrap_or}
use Rattle.std.specs.List.{AllZip, Any}
use Rattle.garde_catalog.specs.Catalog.{IsCatalog, IsRefusal}
use Rattle.garde_catalog.specs.declared.catalog.Catalog.{Catalog}
use Rattle.garde_catalog.specs.declared.catalogs.Catalogs.{Catalogs}
use Rattle.garde_catalog.specs.declared.fault.CatalogError.{CatalogError}
use Rattle.garde_catalog.specs.declared.language.Language.{Language}

-- the catalog is that of the texts of the language
abbrev pub IsOfLanguage : Language → Catalog → Type 0
IsOfLanguage language catalog = IsCatalog language.table.now [] catalog

-- no catalog is made of the texts of one of these languages
abbrev pub IsRefusalOf : List Language → Language → CatalogError → Type 0
IsRefusalOf offered otherwise error =
    Any (λ language. IsRefusal language.table.now [] error) offered ⊎ IsRefusal otherwise.table.now [] error

-- a language and its catalog are added
abbrev pub AddsLanguage : Language → List Language → List Language → List Catalog → List Catalog → Type 0
AddsLanguage language languages later catalogs more =
    (later ≡ languages ++ language ∷ []) × ((catalog : Catalog) × (more ≡ catalogs ++ catalog ∷ []) × IsOfLanguage language catalog)

-- there is a catalog for each of these languages, in their order, and one for where none of them is asked for
pub record AreCatalogs (offered : List Language) (otherwise : Language) (catalogs : Catalogs) : Type 0 where
  pub languages : catalogs.languages.items ≡ offered
  pub each : AllZip IsOfLanguage offered catalogs.catalogs.items
  pub otherwise_is : catalogs.otherwise ≡ otherwise
  pub other : IsOfLanguage otherwise catalogs.other

-- the languages that are offered
abbrev pub offered_by : Catalogs → List Language
offered_by catalogs = catalogs.languages.items

-- the catalog of the language in this place, or the one for where none is asked for
abbrev pub catalog_at : Catalogs → Option ℕ → Catalog
catalog_at catalogs None = catalogs.other
catalog_at catalogs (Some place) = unwrap_or (slice_get catalogs.catalogs.items place) catalogs.other

abbrev pub tag_in : Language → Option Language → List ℕ
tag_in otherwise None = otherwise.tag.now
tag_in otherwise (Some language) = language.tag.now

-- the tag of that language
abbrev pub tag_at : Catalogs → Option ℕ → List ℕ
tag_at catalogs None = catalogs.otherwise.tag.now
tag_at catalogs (Some place) = tag_in catalogs.otherwise (slice_get catalogs.languages.items place)
