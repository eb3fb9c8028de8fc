-- The place of the value that a path leads to.
use Rattle.std.proofs.Common.{◌≡◌, ℕ, ◌<◌, ◌+◌, ◌-◌, List, [], ◌++◌, length, drop, get_or, Option, Some, None, refl, sym, ap, ◌∙◌, subst, arith, append-nil, ⊎_elim, le_refl, append_assoc}
use Rattle.std.specs.Prelude.{MatchOption}
use Rattle.std.proofs.lemmas.Bool.{cases_lt}
use Rattle.std.proofs.lemmas.List.{drop-drop, drop_all}
use Rattle.json.specs.Token.{Token}
use Rattle.json.specs.Lex.{fresh, tokens}
use Rattle.json.specs.Json.{Json, null, boolean, number, string, array, object, Items, no_items, item, Members, no_members, member, value, document}
use Rattle.json.specs.Tree.{json_tokens, items_tokens, members_tokens, depth}
use Rattle.json.specs.Find.{BeginsWith, HasValue, get}
use Rattle.json.proofs.Printed.Trees.{value-json_tokens}
use Rattle.json.proofs.Unique.Spelling.{tokens-document, value-json_tokens_back}
use Rattle.json.proofs.Found.{Some_inj}
use Rattle.garde_tape.specs.Reading.{json_of}
use Rattle.garde_tape.specs.Read.{json_found}
use Rattle.garde_tape.specs.declared.place.Place.{Place}
use Rattle.garde_places.specs.declared.lex.Mode.TheVariants.{Between}
use Rattle.garde_report.specs.Part.{Part}
use Rattle.garde_places.specs.Scan.{spots}
use Rattle.garde_tape.specs.Place.{text_start, place_at}
use Rattle.garde_places.specs.Steps.{reached, tokens_before, before_named, name_behind, before_name, Spells}
use Rattle.garde_places.specs.Text.{AreGood}
use Rattle.garde_places.specs.Places.{IsPlaceOf, IsNamePlaceOf, BeginsMember}
use Rattle.garde_places.proofs.Begins.{Found, all_found}
use Rattle.garde_tape.specs.Counting.{counts}
use Rattle.garde_places.proofs.Naming.{NamedAt, named, no_name_there}
use Rattle.garde_places.proofs.Walking.{path_there, not_nothing}

mutual
  json_good : (j : Json) (rest : List Token) → AreGood rest → AreGood (json_tokens j ++ rest)
  json_good null rest h = (refl, h)
  json_good (boolean b) rest h = (refl, h)
  json_good (number s) rest h = (refl, h)
  json_good (string s) rest h = (refl, h)
  json_good (array js) rest h = (refl, items_good js rest h)
  json_good (object ms) rest h = (refl, members_good ms rest h)

  items_good : (js : Items) (rest : List Token) → AreGood rest → AreGood (items_tokens js ++ rest)
  items_good no_items rest h = (refl, h)
  items_good (item j js) rest h = subst AreGood (sym (append_assoc (json_tokens j) (items_tokens js) rest)) (json_good j _ (items_good js rest h))

  members_good : (ms : Members) (rest : List Token) → AreGood rest → AreGood (members_tokens ms ++ rest)
  members_good no_members rest h = (refl, h)
  members_good (member k j ms) rest h =
      (refl, subst AreGood (sym (append_assoc (json_tokens j) (members_tokens ms) rest)) (json_good j _ (members_good ms rest h)))

module _ (text : List ℕ) (j : Json) (e : document text ≡ Some j) where
  spelled : Spells (tokens text) j
  spelled = ([], tokens-document text j e ∙ sym (append-nil (json_tokens j)))

  good : AreGood (tokens text)
  unfolding spelled
  good = subst AreGood (sym spelled.1) (json_good j [] tt)

  -- a token that is there
  within : (k : ℕ) (i : Json) → Spells (drop k (tokens text)) i → k < length (tokens text)
  within k i h = ⊎_elim (λ less. less) (λ past. not_nothing i (subst (λ ts. Spells ts i) (drop_all k (tokens text) past) h)) (cases_lt k (length (tokens text)))

  within_name : (k : ℕ) (name : List ℕ) (i : Json) → NamedAt (drop k (tokens text)) name i → k < length (tokens text)
  within_name k name i h =
      ⊎_elim (λ less. less) (λ past. absurd (omega (arith, ap length (sym (drop_all k (tokens text) past) ∙ h.1)))) (cases_lt k (length (tokens text)))

  found_at : (k : ℕ) → k < length (tokens text) → Found text text_start (spots Between text_start text) (tokens text) k
  found_at k less = all_found text Between fresh text_start k good less

  begins_with : (k : ℕ) (f : Found text text_start (spots Between text_start text) (tokens text) k) (i : Json) → Spells (drop k (tokens text)) i → BeginsWith (tokens (drop f.0 text)) i
  begins_with k f i h = (depth i, h.0, ap (value (depth i)) (f.1.tokens ∙ h.1) ∙ value-json_tokens i (depth i) h.0 (le_refl _))

  counted_at : (k : ℕ) (f : Found text text_start (spots Between text_start text) (tokens text) k) (found : List Place) (d : Place) → found ≡ spots Between text_start text → get_or found k d ≡ place_at text f.0
  counted_at k f found d same = ap (λ ps. get_or ps k d) same ∙ f.2 d ∙ counts text f.0

  pub located : (path : List Part) (found : List Place) (d : Place) → found ≡ spots Between text_start text → IsPlaceOf text path j (get_or found (tokens_before path j) d)
  located path found d same =
      let k = tokens_before path j in
      let there = path_there path j (tokens text) spelled in
      let f = found_at k (within k (reached path j) there) in
      record { offset = f.0; counted = counted_at k f found d same; begins = f.1; spells = begins_with k f (reached path j) there }

  named_case : (path : List Part) (name : List ℕ) (found : List Place) (d : Place) (o : Option Json) → found ≡ spots Between text_start text → get name (reached path j) ≡ o
      → IsNamePlaceOf text path name j (get_or found (tokens_before path j + before_name name (reached path j)) d)
  named_case path name found d None same is =
      let r = reached path j in
      let k = tokens_before path j + before_name name r in
      let sum : k ≡ tokens_before path j = sym (no_name_there (tokens_before path j) name r is) in
      let there = subst (λ n. Spells (drop n (tokens text)) r) (sym sum) (path_there path j (tokens text) spelled) in
      let f = found_at k (within k r there) in
      record {
        offset = f.0;
        counted = counted_at k f found d same;
        begins = f.1;
        spells = subst (λ o. MatchOption o (BeginsWith (tokens (drop f.0 text)) r) (λ i. BeginsMember (tokens (drop f.0 text)) name i)) (sym is) (begins_with k f r there);
      }
  named_case path name found d (Some i) same is =
      let r = reached path j in
      let start = tokens_before path j in
      let k = start + before_name name r in
      let sum : start + (before_named name r - 1) ≡ k = ap (λ o. start + name_behind o (before_named name r)) (sym is) in
      let there = subst (λ ts. NamedAt ts name i) (drop-drop (before_named name r - 1) start (tokens text) ∙ ap (λ n. drop n (tokens text)) sum) (named name r (drop start (tokens text)) i is (path_there path j (tokens text) spelled)) in
      let f = found_at k (within_name k name i there) in
      record {
        offset = f.0;
        counted = counted_at k f found d same;
        begins = f.1;
        spells = subst (λ o. MatchOption o (BeginsWith (tokens (drop f.0 text)) r) (λ i. BeginsMember (tokens (drop f.0 text)) name i)) (sym is)
            (json_tokens i ++ there.0, f.1.tokens ∙ there.1, (depth i, there.0, value-json_tokens i (depth i) there.0 (le_refl _)));
      }

  pub located_name : (path : List Part) (name : List ℕ) (found : List Place) (d : Place) → found ≡ spots Between text_start text → IsNamePlaceOf text path name j (get_or found (tokens_before path j + before_name name (reached path j)) d)
  located_name path name found d same = named_case path name found d (get name (reached path j)) same refl

  -- the tokens of the tape begin with the value of the text
  pub nodes_spell : (ts : List Token) → document text ≡ Some (json_of ts) → HasValue ts → Spells ts j
  nodes_spell ts read has =
      subst (Spells ts) (sym (json_found ts has.0 has.1) ∙ Some_inj _ _ (sym read ∙ e)) (has.1.1, value-json_tokens_back has.1.0 ts has.1.1 has.0 has.1.2)
