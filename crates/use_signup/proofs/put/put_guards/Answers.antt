use Rattle.std.proofs.Common.{List, ◌∷◌, ◌++◌, [], codes, ap, ◌∙◌, append_assoc}
use Rattle.garde_html.specs.declared.style.TheConstants as style
use Rattle.http1.specs.Fields.{Header}
use Rattle.http_server.specs.Response.{fields_of}
use Rattle.use_signup.proofs.put.put_guards.Goals as goal

-- the fields one behind the other
pub returns-clause-headers : goal.returns-clause-headers
returns-clause-headers c =
    let old : List Header = fields_of c.args.response.now in
    let policy : List Header = (codes "content-security-policy", style.POLICY.now) ∷ [] in
    let type : List Header = (codes "x-content-type-options", codes "nosniff") ∷ [] in
    let referrer : List Header = (codes "referrer-policy", codes "same-origin") ∷ [] in
    let cache : List Header = (codes "cache-control", codes "no-store") ∷ [] in
    c.in_ok-put_field-4.ensures.headers
    ∙ ap (λ (fields : List Header). fields ++ cache) (c.in_ok-put_field-3.ensures.headers
    ∙ ap (λ (fields : List Header). fields ++ referrer) (c.in_ok-put_field-2.ensures.headers
    ∙ ap (λ (fields : List Header). fields ++ type) c.in_ok-put_field.ensures.headers))
    ∙ append_assoc ((old ++ policy) ++ type) referrer cache
    ∙ append_assoc (old ++ policy) type (referrer ++ cache)
    ∙ append_assoc old policy (type ++ (referrer ++ cache))
