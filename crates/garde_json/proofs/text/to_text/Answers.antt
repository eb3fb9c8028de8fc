use Rattle.std.proofs.Common.{◌≡◌, ◌++◌, [], ◌∙◌, ap}
use Rattle.json.specs.Print.{print}
use Rattle.serde_json.proofs.Texts.{print-outline}
use Rattle.garde_json.specs.First.{told_json}
use Rattle.garde_json.specs.Tokens.{tree_tokens}
use Rattle.garde_json.proofs.text.to_text.Goals as goal

-- the tokens that were written print the text of the tree
pub returns : goal.returns
returns c =
    let tree = told_json c.args.has_more c.args.report.now in
    let out = c.write_report.new.out in
    let written = c.in_ok-write_report.ensures {u = tt} in
    let before : out.before ≡ [] = written.before ∙ c.new-out.ensures.before ∙ c.new.ensures.items in
    let tokens : out.tokens ≡ tree_tokens tree =
    written.tokens ∙ ap (λ ts. ts ++ tree_tokens tree) c.new-out.ensures.tokens in
    ap (λ v. v.items) c.from_utf8_unchecked.ensures.value ∙ c.into_inner.ensures.items
    ∙ (λ i. before i ++ print (tokens i)) ∙ print-outline tree
