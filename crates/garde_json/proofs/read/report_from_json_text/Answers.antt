use Rattle.std.proofs.Common.{rules, ◌≡◌, None, length}
use Rattle.json.specs.Json.{document}
use Rattle.garde_json.proofs.Empty.{no_document}
use Rattle.garde_json.proofs.read.report_from_json_text.Goals as goal

-- the empty text spells no report
pub returns-then-is_empty-clause-form : goal.returns-then-is_empty-clause-form
returns-then-is_empty-clause-form c =
    let empty : length c.args.text.now ≡ 0 = search rules in
    let none : document c.args.text.now ≡ None = no_document c.args.text.now empty in
    λ same report is. cc
