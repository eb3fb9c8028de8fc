-- A text that is a report, by its tokens.
use Rattle.std.proofs.Common.{◌≡◌, ◌≢◌, ◌≤◌, ℕ, List, [], ◌∷◌, map, Option, Some, None, sym, ap, ◌∙◌, arith, append-nil, option_and_then}
use Rattle.json.specs.Token.{Token}
use Rattle.json.specs.Json.{Json, value, document, if_last, max_depth}
use Rattle.json.specs.Lex.{tokens}
use Rattle.json.specs.Tree.{json_tokens, depth, items_depth}
use Rattle.json.proofs.Printed.Trees.{value-json_tokens}
use Rattle.json.proofs.Unique.Spelling.{value-json_tokens_back}
use Rattle.serde_json.specs.View.{items_of}
use Rattle.serde_json.specs.Written.{items_outline}
use Rattle.garde_report.specs.Part.{Part}
use Rattle.garde_report.specs.Report.{Entry}
use Rattle.garde_json.specs.Form.{report_tree}
use Rattle.garde_json.specs.Json.{part_json, entry_json}

-- a report nests no deeper than five
parts_depth : (ps : List Part) → items_depth (items_outline (items_of (map part_json ps))) ≤ 1
parts_depth [] = omega arith
parts_depth (p ∷ ps) = omega (arith, parts_depth ps)

entries_depth : (es : List Entry) → items_depth (items_outline (items_of (map entry_json es))) ≤ 3
entries_depth [] = omega arith
entries_depth (e ∷ es) = omega (arith, parts_depth e.0, entries_depth es)

report_depth : (es : List Entry) → depth (report_tree es) ≤ max_depth
report_depth es = omega (arith, entries_depth es)

last_of : (o : Option (Json × List Token)) (j : Json) → option_and_then (λ p. if_last p.0 p.1) o ≡ Some j → o ≡ Some (j, [])
last_of None j e = cc
last_of (Some (k, [])) j e = let same : k ≡ j = cc in ap (λ v. Some (v, [])) same
last_of (Some (k, t ∷ ts)) j e = cc

-- the tokens of a report make the text one
pub report_is : (text : List ℕ) (es : List Entry) → tokens text ≡ json_tokens (report_tree es) → document text ≡ Some (report_tree es)
report_is text es e =
    ap (λ ts. option_and_then (λ p. if_last p.0 p.1) (value max_depth ts)) (e ∙ sym (append-nil (json_tokens (report_tree es))))
    ∙ ap (option_and_then (λ p. if_last p.0 p.1)) (value-json_tokens (report_tree es) max_depth [] (report_depth es))

-- and a text that is one has them
pub report_tokens : (text : List ℕ) (es : List Entry) → document text ≡ Some (report_tree es) → tokens text ≡ json_tokens (report_tree es)
report_tokens text es e =
    value-json_tokens_back max_depth (tokens text) [] (report_tree es) (last_of (value max_depth (tokens text)) (report_tree es) e) ∙ append-nil (json_tokens (report_tree es))

-- what the text is where its tokens were read as a report, and where they are none
pub text_is : (text : List ℕ) (read : List Token) (report : List Entry) → read ≡ tokens text → (es : List Entry) × (read ≡ json_tokens (report_tree es)) × (report ≡ es) → document text ≡ Some (report_tree report)
text_is text read report all is = report_is text is.0 (sym all ∙ is.1) ∙ ap (λ es. Some (report_tree es)) (sym is.2)

pub text_is_none : (text : List ℕ) (read : List Token) → read ≡ tokens text → ((es : List Entry) → read ≢ json_tokens (report_tree es)) → (es : List Entry) → document text ≢ Some (report_tree es)
text_is_none text read all none es is = none es (all ∙ report_tokens text es is)
