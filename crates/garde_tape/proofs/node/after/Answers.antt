use Rattle.std.proofs.Common.{map, get_or, sym, ap, ◌∙◌, subst, arith}
use Rattle.std.proofs.lemmas.List.{get_or_default}
use Rattle.json.specs.Json.{value}
use Rattle.json.specs.Tape.{node_token, LinkAt}
use Rattle.json.specs.declared.tape.Node.TheVariants.{Object, Null}
use Rattle.garde_tape.proofs.Nodes.{here, one_token, by_link}
use Rattle.garde_tape.proofs.node.after.Goals as goal

pub returns-in_default : goal.returns-in_default
returns-in_default c =
    let ns = c.args.nodes.now in
    let n = get_or ns c.args.at (Object 0) in
    record {
      value = λ depth j rest e. one_token n _ j depth rest (λ a z. grind arith) (λ a z. grind arith) (ap (value depth) (sym (here ns c.args.at c.node_at.ensures.within.0)) ∙ e);
      later = omega arith;
    }

pub returns-in-Object : goal.returns-in-Object
returns-in-Object c =
    let ns = c.args.nodes.now in
    let all = map node_token ns in
    let within = c.node_at.ensures.within.0 in
    let linked = subst (LinkAt all c.args.at) (get_or_default ns c.args.at Null (Object 0) within ∙ sym c.node_at.ensures.node ∙ c.in-Object.is) (c.requires.linked c.args.at (omega arith) within) in
    record {
      value = λ depth j rest e. by_link all c.args.at c.in-Object.end depth j rest linked e;
      later = linked.2;
    }

pub returns-in-Array : goal.returns-in-Array
returns-in-Array c =
    let ns = c.args.nodes.now in
    let all = map node_token ns in
    let within = c.node_at.ensures.within.0 in
    let linked = subst (LinkAt all c.args.at) (get_or_default ns c.args.at Null (Object 0) within ∙ sym c.node_at.ensures.node ∙ c.in-Array.is) (c.requires.linked c.args.at (omega arith) within) in
    record {
      value = λ depth j rest e. by_link all c.args.at c.in-Array.end depth j rest linked e;
      later = linked.2;
    }
