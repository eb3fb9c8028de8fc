use Rattle.std.proofs.Common.{rules, ◌≡◌, ◌∙◌, Some, ap, arith, codes, length, refl, sym}
use Rattle.std.specs.Prelude.{option_and_then, option_map}
use Rattle.serde_json.specs.Find.{as_str, get}
use Rattle.serde_json.specs.View.{view}
use Rattle.garde_check.specs.Body.{Content}
use Rattle.garde_check.specs.Request.{IsRequest, age_in, count, entries_in, texts_in}
use Rattle.garde_check.proofs.Members.{counted, four}
use Rattle.garde_check.proofs.body.json.body_in.Goals as goal

pub returns-then-len-ne4 : goal.returns-then-len-ne4
returns-then-len-ne4 c = λ body is.
    let all = four (view c.args.tree.now) c.in_ok-as_object.field-0.now.entries body c.in_ok-as_object.ensures is in
    let same = c.len.ensures.len in
    let other = c.if-len-ne4.true in
    absurd (omega (arith, all, same, other))

pub returns : goal.returns
returns c =
    let tree = view c.args.tree.now in
    let entries = c.in_ok-as_object.field-0.now.entries in
    let all : length entries ≡ 4 = let same = c.len.ensures.len in let is = c.if-len-ne4.false in omega (arith, same, is) in
    let name : option_and_then as_str (get (codes "username") tree) ≡ Some c.in_ok-name.name.now = search rules in
    let age : option_and_then age_in (get (codes "age") tree) ≡ Some c.in_ok-age.age = search rules in
    let tags = c.in_ok-tags.ensures {u = tt} in
    let places = c.in_ok-addresses.ensures {u = tt} in
    let body : Content = record { username = c.in_ok-name.name.now; age = c.in_ok-age.age; tags = tags.0; addresses = places.0 } in
    let is : IsRequest tree body = record {
      four = ap (option_map count) (sym c.in_ok-as_object.ensures) ∙ ap Some (counted entries ∙ all);
      username = name;
      age = age;
      tags = ap (option_and_then texts_in) (sym c.in_ok-get.ensures) ∙ tags.1;
      addresses = ap (option_and_then entries_in) (sym c.in_ok-get-2.ensures) ∙ places.1;
    } in
    (body, is, c.made.ensures body (search rules) refl tags.2 places.2)
