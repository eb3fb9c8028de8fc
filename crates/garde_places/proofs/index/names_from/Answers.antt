use Rattle.std.proofs.Common.{◌+◌, ◌∷◌, map, drop, get_or, sym, ap, ◌∙◌, subst, arith, bytes_eq}
use Rattle.std.proofs.lemmas.List.{length-drop, length-map}
use Rattle.std.proofs.lemmas.Map.Text.{btree_map_updates_str}
use Rattle.json.specs.Tape.{node_token}
use Rattle.json.specs.declared.tape.Node.TheVariants.{Object}
use Rattle.garde_places.specs.Steps.{SpellMembers, member_spot}
use Rattle.garde_places.specs.Index.{named}
use Rattle.garde_places.proofs.Walking.{here, or_found, found_if, found_or, no_name, members_end, members_short, members_more, member_spot_more, past_value}
use Rattle.garde_places.proofs.index.names_from.Goals as goal

pub returns-then-here-saturating_sub : goal.returns-then-here-saturating_sub
returns-then-here-saturating_sub c ms h name =
    let now = c.loop-here.invariant ms h in
    let all = map node_token c.args.nodes.now in
    let none = members_short (drop c.loop-here.here all) now.0 (omega (arith, length-drop c.loop-here.here all, length-map c.args.nodes.now node_token)) now.1 in
    sym (now.2 name ∙ ap (λ l. or_found (member_spot c.loop-here.here name l) (named c.loop-here.names name)) none)

pub returns-in_default : goal.returns-in_default
returns-in_default c ms h name =
    let now = c.loop-here.invariant ms h in
    let ns = c.args.nodes.now in
    let i = c.loop-here.here in
    let n = get_or ns i (Object 0) in
    let none = members_end (node_token n) (drop (i + 1) (map node_token ns)) now.0 (no_name n c.in_default.not-Key) (subst (λ ts. SpellMembers ts now.0) (here ns i (Object 0) (omega arith)) now.1) in
    sym (now.2 name ∙ ap (λ l. or_found (member_spot i name l) (named c.loop-here.names name)) none)

pub loop-here-preserved : goal.loop-here-preserved
loop-here-preserved c ms h =
    let now = c.loop-here.invariant ms h in
    let ns = c.args.nodes.now in
    let all = map node_token ns in
    let i = c.loop-here.here in
    let k = c.in-Key.key.now in
    let first = here ns i (Object 0) (omega arith) ∙ ap (λ n. node_token n ∷ drop (i + 1) all) c.in-Key.is in
    let f = members_more k (drop (i + 1) all) now.0 (subst (λ ts. SpellMembers ts now.0) first now.1) in
    let next = c.after-here.ensures.value f.0 (_, f.4) in (
      f.1,
      (f.2, ap (λ l. drop l all) next ∙ past_value all (i + 1) f.0 _ f.4),
      λ name.
          let old = named c.loop-here.names name in
          let put = btree_map_updates_str k c.loop-here.names c.insert.new.self _ c.in_ok-insert.ensures.updates name in
          now.2 name ∙ ap (λ l. or_found (member_spot i name l) old) f.3 ∙ member_spot_more i name k f.0 f.1 old
          ∙ ap (λ l. or_found (member_spot l name f.1) (found_if (bytes_eq k name) (i + 1) old)) (sym next)
          ∙ ap (or_found (member_spot c.after-here.result name f.1)) (found_or (bytes_eq k name) (i + 1) old ∙ sym put),
    )
