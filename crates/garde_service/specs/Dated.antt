-- The field `date` of an answer.
use Rattle.std.specs.Prelude.{◌≡◌, ◌⊎◌, [], ◌∷◌, ◌++◌, codes, Option, Some}
use Rattle.httpdate.specs.Date.{date_text}
use Rattle.httpdate.specs.declared.date.HttpDate.{HttpDate}
use Rattle.http_server.specs.declared.response.Response.{Response}
use Rattle.http_server.specs.Response.{fields_of}

-- the answer with this date behind its fields, or without one
abbrev pub IsDated : Option HttpDate → Response → Response → Type 0
IsDated date plain dated =
    (dated.status ≡ plain.status) × (dated.body ≡ plain.body)
    × ((fields_of dated ≡ fields_of plain)
    ⊎ ((day : HttpDate) × (date ≡ Some day) × (fields_of dated ≡ fields_of plain ++ (codes "date", date_text day) ∷ [])))
