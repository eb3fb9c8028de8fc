use Rattle.std.proofs.Common.{◌+◌, ◌∷◌, get_or, ap, ◌∙◌, subst, arith}
use Rattle.json.specs.Json.{after_end_array}
use Rattle.json.specs.Tape.{node_token}
use Rattle.json.specs.Find.{InItems}
use Rattle.json.specs.declared.tape.Node.TheVariants.{Object}
use Rattle.json.proofs.Found.{items_close, items_go_on}
use Rattle.garde_tape.specs.Walk.{tokens_at}
use Rattle.garde_tape.proofs.Nodes.{here, items_within, no_close}
use Rattle.garde_tape.proofs.Reading.{items_of-found}
use Rattle.garde_tape.proofs.node.has_item.Goals as goal

pub bounds : goal.bounds
bounds c = let v = c.requires.value in items_within c.args.nodes.now c.args.at v.0 v.1

pub returns-in-EndArray : goal.returns-in-EndArray
returns-in-EndArray c =
    let ns = c.args.nodes.now in
    let i = c.args.at in
    let v = c.requires.value in
    let closing = here ns i (items_within ns i v.0 v.1) ∙ ap (λ n. node_token n ∷ tokens_at ns (i + 1)) c.in-EndArray.is in
    items_of-found _ v.0 v.1 ∙ items_close _ v.0 (subst (λ ts. InItems ts v.0) closing v.1)

pub returns-in_default : goal.returns-in_default
returns-in_default c =
    let ns = c.args.nodes.now in
    let i = c.args.at in
    let v = c.requires.value in
    let going = ap after_end_array (here ns i (items_within ns i v.0 v.1)) ∙ no_close (get_or ns i (Object 0)) _ (λ e. grind arith) in
    let f = items_go_on _ v.0 going v.1 in
    record {
      depth = f.0;
      json = f.1;
      after = f.2;
      others = f.3;
      value = f.4;
      items = f.6;
      is = items_of-found _ v.0 v.1 ∙ f.5;
    }

pub offset_bounds-nodes-at : goal.offset_bounds-nodes-at
offset_bounds-nodes-at c = let v = c.requires.value in let within = items_within c.args.nodes.now c.args.at v.0 v.1 in omega (arith, within)
