-- What the path and the query of a request spell, as one JSON text.
use Rattle.std.specs.Prelude.{ℕ, List, [], ◌++◌, codes, unwrap_or}
use Rattle.garde_form.specs.WebForm.{fields_in}
use Rattle.garde_problem.specs.Problem.{json_text, params_members}
use Rattle.http.specs.declared.request.Parts.{Parts}
use Rattle.http_uri.specs.Uri.{uri_query}
use Rattle.json.specs.Json.{object}
use Rattle.garde_service.specs.Asked.{path_of}
use Rattle.garde_service.specs.Paths.{parameters, segments}

-- the object of these names and their texts
abbrev pub object_text : List (List ℕ × List ℕ) → List ℕ
object_text fields = json_text (object (params_members fields))

-- an object with these parameters of a path and these fields of a query
abbrev pub input_text : List (List ℕ × List ℕ) → List (List ℕ × List ℕ) → List ℕ
input_text path query = codes "{\"path\":" ++ (object_text path ++ (codes ",\"query\":" ++ (object_text query ++ codes "}")))

-- the same of a request whose path fits this pattern; a query that is not there has no field
abbrev pub input_at : List ℕ → Parts → List ℕ
input_at pattern head =
    input_text (parameters (segments pattern) (segments (path_of head))) (fields_in (unwrap_or (uri_query head.uri) []))
