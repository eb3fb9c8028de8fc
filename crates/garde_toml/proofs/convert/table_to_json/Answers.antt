use Rattle.std.proofs.Common.{◌++◌, ◌≤◌, ap, ◌∙◌}
use Rattle.json.specs.Json.{document, max_depth}
use Rattle.json.specs.Tree as tree
use Rattle.json.specs.Tree.{json_tokens}
use Rattle.toml.specs.Data.{table}
use Rattle.toml.specs.View.{table_view}
use Rattle.garde_toml.proofs.Spelling.{same_depth, read_back}
use Rattle.garde_toml.proofs.convert.table_to_json.Goals as goal

pub returns : goal.returns
returns c =
    let (j, spelled, before, written) = c.in_ok-write_table.ensures in
    let inner = c.into_inner.ensures in
    let none = before ∙ c.new-out.ensures.before ∙ c.new.ensures.items in
    let shallow : tree.depth j ≤ max_depth = rw (same_depth (table (table_view c.args.members.now)) j spelled) c.requires in
    let all = written ∙ ap (λ ts. ts ++ json_tokens j) c.new-out.ensures.tokens in (
      j,
      ap (λ v. document v.items) c.in-Ok.ensures.ok ∙ read_back j _ _ _ inner.items inner.reads_back none all shallow,
      spelled,
    )
