-- The text of a catalog for what is not read as JSON.
use Rattle.std.specs.Prelude.{ℕ, List, [], codes}
use Rattle.std.specs.Fmt.{decimal}
use Rattle.garde_tape.specs.declared.parse_error.ParseError.{ParseError}
use Rattle.garde_tape.specs.declared.parse_error.ParseError.TheVariants as parse
use Rattle.garde_tape.specs.declared.place.Place.{Place}
use Rattle.garde_catalog.specs.Catalog.{put_both, word_at}
use Rattle.garde_catalog.specs.Messages.{place_of}
use Rattle.garde_catalog.specs.declared.catalog.Catalog.{Catalog}

-- the text of a message with a place in it
abbrev pub put_place : Catalog → ℕ → Place → List ℕ
put_place catalog at place = put_both catalog at (codes "line") (decimal place.line) (decimal place.column)

-- the text of what is not read as JSON; of memory that ran out there is none
abbrev pub catalog_parse_text : Catalog → ParseError → List ℕ
catalog_parse_text catalog (parse.NotUtf8 place) = put_place catalog (place_of (codes "not_utf8")) place
catalog_parse_text catalog (parse.NotJson place) = put_place catalog (place_of (codes "not_json")) place
catalog_parse_text catalog (parse.TooDeep place) = put_place catalog (place_of (codes "nested_too_deep")) place
catalog_parse_text catalog (parse.LoneSurrogate place) = put_place catalog (place_of (codes "lone_surrogate")) place
catalog_parse_text catalog parse.TooLong = word_at catalog (place_of (codes "text_too_long"))
catalog_parse_text catalog parse.Memory = []
