use Rattle.std.proofs.Common.{List, ◌≡◌, ◌∷◌, ◌++◌, [], codes, ap, ◌∙◌, append_assoc}
use Rattle.http1.specs.Fields.{Header}
use Rattle.http_server.specs.Response.{fields_of}
use Rattle.garde_service.proofs.put.put_language.Goals as goal

pub returns-clause-headers : goal.returns-clause-headers
returns-clause-headers c =
    let old : List Header = fields_of c.args.response.now in
    let vary : List Header = (codes "vary", codes "accept-language") ∷ [] in
    let first : fields_of c.add_header.new.self ≡ old ++ (codes "content-language", c.args.tag.now) ∷ [] =
    rw (c.in-Ok.ensures.ok) at c.in_ok-add_header.ensures.headers in
    let second : fields_of c.add_header-2.new.self ≡ fields_of c.add_header.new.self ++ vary =
    rw (c.from_static.ensures) at c.in_ok-add_header-2.ensures.headers in
    second ∙ ap (λ (fields : List Header). fields ++ vary) first ∙ append_assoc old ((codes "content-language", c.args.tag.now) ∷ []) vary
