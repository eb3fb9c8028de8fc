-- The tables that are shipped.
use Rattle.std.specs.Prelude.{ℕ, List, [], ◌∷◌, All, codes, map}
use Rattle.garde_catalog.specs.Catalog.{AreGood}
use Rattle.garde_catalog.specs.Lines.{Line, line_of}
use Rattle.garde_catalog.specs.Messages.{Message}
use Rattle.garde_catalog.specs.declared.language.Language.{Language}
use Rattle.garde_catalog.specs.declared.messages.TheConstants.{FURTHER_MESSAGES}
use Rattle.garde_catalog.specs.declared.tables.english.TheConstants.{ENGLISH}
use Rattle.garde_catalog.specs.declared.tables.german.TheConstants.{GERMAN}
use Rattle.garde_catalog.specs.declared.tables.french.TheConstants.{FRENCH}
use Rattle.garde_catalog.specs.declared.tables.spanish.TheConstants.{SPANISH}
use Rattle.garde_catalog.specs.declared.tables.italian.TheConstants.{ITALIAN}
use Rattle.garde_catalog.specs.declared.tables.portuguese.TheConstants.{PORTUGUESE}
use Rattle.garde_catalog.specs.declared.tables.dutch.TheConstants.{DUTCH}
use Rattle.garde_catalog.specs.declared.tables.swedish.TheConstants.{SWEDISH}
use Rattle.garde_catalog.specs.declared.tables.polish.TheConstants.{POLISH}
use Rattle.garde_catalog.specs.declared.tables.czech.TheConstants.{CZECH}
use Rattle.garde_catalog.specs.declared.tables.russian.TheConstants.{RUSSIAN}
use Rattle.garde_catalog.specs.declared.tables.ukrainian.TheConstants.{UKRAINIAN}
use Rattle.garde_catalog.specs.declared.tables.turkish.TheConstants.{TURKISH}
use Rattle.garde_catalog.specs.declared.tables.japanese.TheConstants.{JAPANESE}
use Rattle.garde_catalog.specs.declared.tables.chinese.TheConstants.{CHINESE}
use Rattle.garde_catalog.specs.declared.tables.korean.TheConstants.{KOREAN}
use Rattle.garde_catalog.specs.declared.tables.arabic.TheConstants.{ARABIC}
use Rattle.garde_catalog.specs.declared.tables.hindi.TheConstants.{HINDI}

-- the messages of schemas and of fields, of which each table that is shipped has a text too
abbrev pub FURTHER : List Message
FURTHER = map (λ (message : record { now : List ℕ } × record { now : List ℕ } × record { now : List ℕ }). (message.0.now, message.1.now, message.2.now)) FURTHER_MESSAGES

-- the lines of a table that is shipped
abbrev pub shipped_lines : List (record { now : List ℕ } × record { now : List ℕ }) → List Line
shipped_lines table = map (λ line. (line.0.now, line.1.now)) table

-- a tag, and the lines of a table
abbrev pub Tagged : Type 0
Tagged = List ℕ × List Line

abbrev pub tagged : Language → Tagged
tagged language = (language.tag.now, map line_of language.table.now)

-- the languages that are shipped: which tag has which table
abbrev pub SHIPPED : List Tagged
SHIPPED =
    (codes "en", shipped_lines ENGLISH) ∷
    (codes "de", shipped_lines GERMAN) ∷
    (codes "fr", shipped_lines FRENCH) ∷
    (codes "es", shipped_lines SPANISH) ∷
    (codes "it", shipped_lines ITALIAN) ∷
    (codes "pt-BR", shipped_lines PORTUGUESE) ∷
    (codes "pt", shipped_lines PORTUGUESE) ∷
    (codes "nl", shipped_lines DUTCH) ∷
    (codes "sv", shipped_lines SWEDISH) ∷
    (codes "pl", shipped_lines POLISH) ∷
    (codes "cs", shipped_lines CZECH) ∷
    (codes "ru", shipped_lines RUSSIAN) ∷
    (codes "uk", shipped_lines UKRAINIAN) ∷
    (codes "tr", shipped_lines TURKISH) ∷
    (codes "ja", shipped_lines JAPANESE) ∷
    (codes "zh-Hans", shipped_lines CHINESE) ∷
    (codes "zh-CN", shipped_lines CHINESE) ∷
    (codes "zh-SG", shipped_lines CHINESE) ∷
    (codes "zh", shipped_lines CHINESE) ∷
    (codes "ko", shipped_lines KOREAN) ∷
    (codes "ar", shipped_lines ARABIC) ∷
    (codes "hi", shipped_lines HINDI) ∷
    []

-- a catalog can be made of the table of each of these languages
unfoldable pub AreGoodTables : List Language → Type 0
AreGoodTables languages = All (λ language. AreGood language.table.now []) languages
