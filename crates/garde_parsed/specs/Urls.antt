-- The URLs that texts write.
use Rattle.std.specs.Prelude.{ℕ, List, Option, None}
use Rattle.url.specs.Parts.{Parts}
use Rattle.url.specs.Parser.{parse_url}
use Rattle.garde_parsed.specs.Parts.{ok_of}

-- the absolute URL that a text writes
abbrev pub url_of : List ℕ → Option Parts
url_of text = ok_of (parse_url None text)
