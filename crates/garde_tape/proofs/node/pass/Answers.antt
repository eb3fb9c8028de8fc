use Rattle.std.proofs.Common.{◌≡◌, ◌+◌, ◌-◌, drop, map, get_or, sym, ap, ◌∙◌, subst, arith}
use Rattle.json.specs.Json.{value}
use Rattle.json.specs.Tape.{node_token}
use Rattle.json.specs.declared.tape.Node.TheVariants.{Object}
use Rattle.garde_tape.specs.Walk.{tokens_at}
use Rattle.garde_tape.proofs.Nodes.{here, one_token, by_link, link_behind, value_within, rest_within, rest_node, rest_behind}
use Rattle.garde_tape.proofs.node.pass.Goals as goal

pub bounds-1 : goal.bounds-1
bounds-1 c = rest_within c.args.nodes.now c.args.rest.now.now c.args.at 1 c.requires.rest (value_within c.args.nodes.now (c.args.at + 1) c.requires.begins)

pub bounds-all-1 : goal.bounds-all-1
bounds-all-1 c = rest_within c.args.nodes.now c.args.rest.now.now c.args.at 1 c.requires.rest (value_within c.args.nodes.now (c.args.at + 1) c.requires.begins)

pub overflow_sub-rest : goal.overflow_sub-rest
overflow_sub-rest c =
    let linked = link_behind c.args.nodes.now c.args.rest.now.now c.args.at _ c.requires.linked c.requires.begins c.requires.rest c.in-Object.is in
    let later = linked.2 in
    omega (arith, later)

pub returns-in-Object : goal.returns-in-Object
returns-in-Object c =
    let ns = c.args.nodes.now in
    let at = c.args.at in
    let end = c.in-Object.end in
    let linked = link_behind ns c.args.rest.now.now at _ c.requires.linked c.requires.begins c.requires.rest c.in-Object.is in
    let later = linked.2 in
    record {
      value = λ depth j rest e. by_link (map node_token ns) (at + 1) end depth j rest linked e;
      later = omega (arith, later);
      rest = rest_behind ns c.args.rest.now.now at (end - at) c.requires.rest ∙ ap (λ k. drop k ns) (omega (arith, later));
    }

pub returns-in-Array : goal.returns-in-Array
returns-in-Array c =
    let ns = c.args.nodes.now in
    let at = c.args.at in
    let end = c.in-Array.end in
    let linked = link_behind ns c.args.rest.now.now at _ c.requires.linked c.requires.begins c.requires.rest c.in-Array.is in
    let later = linked.2 in
    record {
      value = λ depth j rest e. by_link (map node_token ns) (at + 1) end depth j rest linked e;
      later = omega (arith, later);
      rest = rest_behind ns c.args.rest.now.now at (end - at) c.requires.rest ∙ ap (λ k. drop k ns) (omega (arith, later));
    }

pub returns-in_default : goal.returns-in_default
returns-in_default c =
    let ns = c.args.nodes.now in
    let rest = c.args.rest.now.now in
    let i = c.args.at + 1 in
    let n = get_or ns i (Object 0) in
    let same = sym (rest_node ns rest c.args.at 1 c.requires.rest) in
    record {
      value = λ depth j others e. subst (λ k. others ≡ tokens_at ns k) (omega arith) (one_token n _ j depth others (λ a z. c.in_default.not-Object a (same ∙ z)) (λ a z. c.in_default.not-Array a (same ∙ z)) (ap (value depth) (sym (here ns i (value_within ns i c.requires.begins))) ∙ e));
      later = omega arith;
      rest = rest_behind ns rest c.args.at 2 c.requires.rest;
    }
