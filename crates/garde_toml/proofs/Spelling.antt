-- What spells a TOML value nests as deep as it, and is read back from its tokens.
use Rattle.std.proofs.Common.{◌≡◌, ℕ, ℤ, Float, List, [], ◌∷◌, ◌++◌, ◌≤◌, max, Bool, true, false, suc, refl, sym, ap, ◌∙◌, Some, Result, Ok, Err, OnOk, option_and_then, append-nil, append_assoc, if◌then◌else◌}
use Rattle.std.specs.Float.{float_is_finite, binary64}
use Rattle.fast_float.specs.Parse.{parse_float}
use Rattle.ryu.specs.Plain.{IsPlainNumber}
use Rattle.std.specs.Fmt.{signed_decimal}
use Rattle.json.specs.Json.{Json, document, if_last, max_depth, value}
use Rattle.json.specs.Json as json
use Rattle.json.specs.Lex.{tokens}
use Rattle.json.specs.Print.{print}
use Rattle.json.specs.Token.{Token}
use Rattle.json.specs.Tree as tree
use Rattle.json.specs.Tree.{json_tokens}
use Rattle.json.specs.Written.{Written, Writes}
use Rattle.json.proofs.Printed.Trees.{value-json_tokens}
use Rattle.toml.specs.Data.{Data, string, integer, float, boolean, datetime, array, table, Items, no_items, item, Members, no_members, member}
use Rattle.toml_writer.specs.Text.{IsFloatText}
use Rattle.garde_form.specs.Bare.{AreWritten, bare}
use Rattle.garde_toml.specs.Nesting.{nesting, items_nesting, members_nesting}
use Rattle.garde_toml.specs.Spelled.{Spells, SpellItems, SpellMembers}
use Rattle.garde_toml.specs.Writes.{WritesValue, WritesItems, WritesMembers}

float_depth : (finite : Bool) (text : List ℕ) → tree.depth (if finite then json.number text else bare text) ≡ (if finite then 0 else 1)
float_depth true text = refl
float_depth false text = refl

mutual
  pub same_depth : (d : Data) (j : Json) → Spells d j → tree.depth j ≡ nesting d
  same_depth (string s) j h = rw h refl
  same_depth (integer z) j h = rw h refl
  same_depth (float x) j (text, told, is) = rw is (float_depth (float_is_finite x) text)
  same_depth (boolean b) j h = rw h refl
  same_depth (datetime dt) j h = rw h refl
  same_depth (array ds) j (js, is, spelled) = rw is (ap suc (same_items_depth ds js spelled))
  same_depth (table ms) j (js, is, spelled) = rw is (ap suc (same_members_depth ms js spelled))

  same_items_depth : (ds : Items) (js : json.Items) → SpellItems ds js → tree.items_depth js ≡ items_nesting ds
  same_items_depth no_items js h = rw h refl
  same_items_depth (item d ds) js (j, rest, is, first, more) =
      rw is (ap (λ n. max n (tree.items_depth rest)) (same_depth d j first) ∙ ap (max (nesting d)) (same_items_depth ds rest more))

  same_members_depth : (ms : Members) (js : json.Members) → SpellMembers ms js → tree.members_depth js ≡ members_nesting ms
  same_members_depth no_members js h = rw h refl
  same_members_depth (member k d ms) js (j, rest, is, first, more) =
      rw is (ap (λ n. max n (tree.members_depth rest)) (same_depth d j first) ∙ ap (max (nesting d)) (same_members_depth ms rest more))

module _ {E : Type 0} where
  -- a value of one token is written by that token
  pub one_token : (r : Result (Unit {0}) E) (old new : Written) (t : Token) (d : Data) (j : Json) → json_tokens j ≡ t ∷ [] → Spells d j → Writes r old new t → OnOk r (WritesValue d old new)
  one_token (Ok x) old new t d j one spelled writes = (j, spelled, writes.room.0, writes.ok ∙ ap (λ ts. old.tokens ++ ts) (sym one))
  one_token (Err e) old new t d j one spelled writes = tt

  pub an_integer : (r : Result (Unit {0}) E) (old new : Written) (z : ℤ) → Writes r old new (Token.number (signed_decimal z)) → OnOk r (WritesValue (integer z) old new)
  an_integer r old new z writes = one_token r old new _ (integer z) (json.number (signed_decimal z)) refl refl writes

  pub a_finite_float : (r : Result (Unit {0}) E) (old new : Written) (x : Float) → float_is_finite x ≡ true → new.before ≡ old.before
      → OnOk r ((s : List ℕ) × (new.tokens ≡ old.tokens ++ Token.number s ∷ []) × IsPlainNumber s × (parse_float binary64 s ≡ Some x)) → OnOk r (WritesValue (float x) old new)
  a_finite_float (Ok y) old new x finite before (s, written, plain, parsed) =
      let told : IsFloatText x s = rw finite (plain, parsed) in
      (json.number s, (s, told, rw finite refl), before, written)
  a_finite_float (Err e) old new x finite before h = tt

  -- a bare value is written by the four tokens of its list
  pub a_bare_value : (r : Result (Unit {0}) E) (old new : Written) (d : Data) (text : List ℕ) → Spells d (bare text) → OnOk r (AreWritten (json_tokens (bare text)) old new) → OnOk r (WritesValue d old new)
  a_bare_value (Ok x) old new d text spelled written = (bare text, spelled, written.before, written.tokens)
  a_bare_value (Err e) old new d text spelled written = tt

  -- an array is its bracket and its items, a table its brace and its members
  pub bracket_first : (r : Result (Unit {0}) E) (old mid new : Written) (ds : Items) → mid.before ≡ old.before → mid.tokens ≡ old.tokens ++ Token.begin_array ∷ [] → OnOk r (WritesItems ds mid new) → OnOk r (WritesValue (array ds) old new)
  bracket_first (Ok x) old mid new ds before began (js, spelled, same, written) =
      (json.array js, (js, refl, spelled), same ∙ before, written ∙ ap (λ ts. ts ++ tree.items_tokens js) began ∙ append_assoc old.tokens (Token.begin_array ∷ []) (tree.items_tokens js))
  bracket_first (Err e) old mid new ds before began h = tt

  pub brace_first : (r : Result (Unit {0}) E) (old mid new : Written) (ms : Members) → mid.before ≡ old.before → mid.tokens ≡ old.tokens ++ Token.begin_object ∷ [] → OnOk r (WritesMembers ms mid new) → OnOk r (WritesValue (table ms) old new)
  brace_first (Ok x) old mid new ms before began (js, spelled, same, written) =
      (json.object js, (js, refl, spelled), same ∙ before, written ∙ ap (λ ts. ts ++ tree.members_tokens js) began ∙ append_assoc old.tokens (Token.begin_object ∷ []) (tree.members_tokens js))
  brace_first (Err e) old mid new ms before began h = tt

  -- what closes a list or an object stands behind its items or its members
  pub bracket_last : (r : Result (Unit {0}) E) (old mid new : Written) (ds : Items) (js : json.Items) → SpellItems ds js → mid.before ≡ old.before → mid.tokens ++ Token.end_array ∷ [] ≡ old.tokens ++ tree.items_tokens js
      → Writes r mid new Token.end_array → OnOk r (WritesItems ds old new)
  bracket_last (Ok x) old mid new ds js spelled before same writes = (js, spelled, writes.room.0 ∙ before, writes.ok ∙ same)
  bracket_last (Err e) old mid new ds js spelled before same writes = tt

  pub brace_last : (r : Result (Unit {0}) E) (old mid new : Written) (ms : Members) (js : json.Members) → SpellMembers ms js → mid.before ≡ old.before → mid.tokens ++ Token.end_object ∷ [] ≡ old.tokens ++ tree.members_tokens js
      → Writes r mid new Token.end_object → OnOk r (WritesMembers ms old new)
  brace_last (Ok x) old mid new ms js spelled before same writes = (js, spelled, writes.room.0 ∙ before, writes.ok ∙ same)
  brace_last (Err e) old mid new ms js spelled before same writes = tt

-- the tokens of a value, behind an empty text, are a document of it
pub read_back : (j : Json) (items before : List ℕ) (ts : List Token) → items ≡ before ++ print ts → tokens (print ts) ≡ ts → before ≡ [] → ts ≡ json_tokens j → tree.depth j ≤ max_depth → document items ≡ Some j
read_back j items before ts whole back none are shallow =
    let text : items ≡ print ts = whole ∙ ap (λ (front : List ℕ). front ++ print ts) none in
    let read : tokens items ≡ json_tokens j ++ [] = ap tokens text ∙ back ∙ are ∙ sym (append-nil (json_tokens j)) in
    ap (option_and_then (λ p. if_last p.0 p.1)) (ap (value max_depth) read ∙ value-json_tokens j max_depth [] shallow)
