-- What answers say: the fields of one that is in a language, and the body of one that rejects a request.
use Rattle.std.specs.Prelude.{ℕ, List, [], ◌∷◌, codes}
use Rattle.http1.specs.Fields.{Header}
use Rattle.garde_service.specs.declared.handler.Body.{Body}

-- which language it is, by its tag, and that the answer depends on what the request asks for
abbrev pub language_fields : List ℕ → List Header
language_fields tag = (codes "content-language", tag) ∷ (codes "vary", codes "accept-language") ∷ []

-- the media type of a body, and its text
abbrev pub said : Body → List ℕ × List ℕ
said body = (body.media.now, body.text.now)
