use Rattle.std.proofs.Common.{◌≡◌, ◌∙◌, ℕ, List, OnOk, ap, subst}
use Rattle.http.specs.Request.{head_of}
use Rattle.http_uri.specs.Uri.{uri_path}
use Rattle.garde_service.specs.Application.{IsJudgedAs, entries}
use Rattle.garde_service.specs.Asked.{path_of}
use Rattle.garde_service.specs.Input.{input_at}
use Rattle.garde_service.specs.Routes.{pattern_of}
use Rattle.garde_service.proofs.application.Site.judge_input.Goals as goal

-- the bytes that are judged are those that the request spells by its own pattern
pub returns : goal.returns
returns g c =
    let head = head_of c.args.request.now in
    let routes = entries c.args.self.now.routes.now in
    let path : c.path.result.now ≡ path_of head = c.path.ensures.value ∙ ap uri_path c.uri.ensures in
    let pattern : c.pattern_of-pattern.result.now ≡ pattern_of routes (path_of head) =
    c.pattern_of-pattern.ensures ∙ ap (λ (p : List ℕ). pattern_of routes p) path in
    let bytes : c.as_slice.result.now ≡ input_at (pattern_of routes (path_of head)) head =
    c.as_slice.ensures.value ∙ (c.in_ok-input.ensures ∙ ap (λ (p : List ℕ). input_at p head) pattern) in
    subst (λ (b : List ℕ). OnOk c.judge.result (IsJudgedAs (g.A.Application.takes c.args.self.now.application c.args.kind)
    c.args.self.now.title.now c.args.self.now.catalogs.now head b c.judge.new.response)) bytes c.judge.ensures
