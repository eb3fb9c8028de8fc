-- The trees of a list in parts, and what is read of them.
use Rattle.std.proofs.Common.{◌≡◌, ℕ, ◌+◌, ◌||◌, cond, List, [], ◌∷◌, ◌++◌, length, map, refl, sym, ap, subst, ◌∙◌, arith}
use Rattle.std.specs.Prelude.{◌↔◌}
use Rattle.std.specs.List.{enumerate_from, flat_map}
use Rattle.garde_i18n.specs.Datum.{Datum}
use Rattle.garde_report.specs.Part.{Part, index_part}
use Rattle.garde_report.specs.Report.{Entry}
use Rattle.garde.specs.Tree.{Tree, nothing, under, ◌then◌, bears, flat, nodes}
use Rattle.garde.specs.Trees.{TreesBoth, TreesEach, TreesItems}
use Rattle.garde.specs.Reading.{entry_under}
use Rattle.garde.specs.Laws.{bears-then}
use Rattle.garde.specs.Parts.{TreesItemsFrom, TreesParts, numbered, AreMoved, IsMovedTree, IsJoined, ItemsInParts, ReadInParts}
use Rattle.garde.proofs.Flat.{then_assoc, flat-then}
use Rattle.garde.proofs.Counts.{nodes-then}
use Rattle.garde.proofs.Read.{flat_under}
use Rattle.garde.proofs.Walks.{each_append}

-- ---- the trees of two lists, one after the other

each_split : {K A : Type 0} (part : K → Part) (trees : A → Tree → Type 0) (es fs : List (K × A)) (t : Tree) → TreesEach part trees (es ++ fs) t → TreesBoth (TreesEach part trees es) (TreesEach part trees fs) t
each_split part trees [] fs t v = (nothing, t, refl, v, refl)
each_split part trees (e ∷ es) fs t (a, r, va, vr, is) =
    let (b, c, vb, vc, cut) = each_split part trees es fs r vr in
    (a then b, c, (a, b, va, vb, refl), vc, is ∙ ap (λ x. a then x) cut ∙ sym (then_assoc a b c))

enumerate_append : {A : Type 0} (n : ℕ) (xs ys : List A) → enumerate_from n (xs ++ ys) ≡ enumerate_from n xs ++ enumerate_from (n + length xs) ys
enumerate_append n [] ys =
    let e : n ≡ n + 0 = omega arith in
    ap (λ k. enumerate_from k ys) e
enumerate_append n (x ∷ xs) ys =
    let e : (n + 1) + length xs ≡ n + length (x ∷ xs) = omega arith in
    ap (λ l. (n, x) ∷ l) (enumerate_append (n + 1) xs ys ∙ ap (λ k. enumerate_from (n + 1) xs ++ enumerate_from k ys) e)

-- ---- what is read of them

moved_append : (n : ℕ) (es fs ms ns : List Entry) → AreMoved n es ms → AreMoved n fs ns → AreMoved n (es ++ fs) (ms ++ ns)
moved_append n [] fs ms ns one other = subst (λ l. AreMoved n fs (l ++ ns)) (sym one) other
moved_append n (e ∷ es) fs ms ns (index, path, rest, at, is, left) other =
    (index, path, rest ++ ns, at, ap (λ l. l ++ ns) is, moved_append n es fs rest ns left other)

moved_item : (n index : ℕ) (es : List Entry) → AreMoved n (map (entry_under (index_part index ∷ [])) es) (map (entry_under (index_part (n + index) ∷ [])) es)
moved_item n index [] = refl
moved_item n index (e ∷ es) = (index, e.0, map (entry_under (index_part (n + index) ∷ [])) es, refl, refl, moved_item n index es)

moved_numbered : (text : Datum → List ℕ) (n index : ℕ) (ts : List Tree) → AreMoved n (flat text [] (numbered index ts)) (flat text [] (numbered (n + index) ts))
moved_numbered text n index [] = refl
moved_numbered text n index (t ∷ ts) =
    let one = flat_under text (index_part index ∷ []) [] t in
    let other = flat_under text (index_part (n + index) ∷ []) [] t in
    let next : n + (index + 1) ≡ (n + index) + 1 = omega arith in
    let item : AreMoved n (flat text (index_part index ∷ []) t) (flat text (index_part (n + index) ∷ []) t) = rw one (rw other (moved_item n index (flat text [] t))) in
    moved_append n _ _ _ _ item
    (subst (λ k. AreMoved n (flat text [] (numbered (index + 1) ts)) (flat text [] (numbered k ts))) next (moved_numbered text n (index + 1) ts))

numbered_nodes : (m n : ℕ) (ts : List Tree) → nodes (numbered m ts) ≡ nodes (numbered n ts)
numbered_nodes m n [] = refl
numbered_nodes m n (t ∷ ts) = ap (λ k. cond (bears t) (nodes t + 1) 0 + k) (numbered_nodes (m + 1) (n + 1) ts)

numbered_bears : (m n : ℕ) (ts : List Tree) → bears (numbered m ts) ≡ bears (numbered n ts)
numbered_bears m n [] = refl
numbered_bears m n (t ∷ ts) = ap (λ b. bears t || b) (numbered_bears (m + 1) (n + 1) ts)

pub read_in_parts : ReadInParts
read_in_parts = record {
  report = flat-then;
  nodes_of = nodes-then;
  bears_of = bears-then;
  moved_report = λ text n t u (ts, one, other).
      let from : n ≡ n + 0 = omega arith in
      rw one (rw (other ∙ ap (λ k. numbered k ts) from) (moved_numbered text n 0 ts));
  moved_nodes = λ n t u (ts, one, other). ap nodes other ∙ numbered_nodes n 0 ts ∙ sym (ap nodes one);
  moved_bears = λ n t u (ts, one, other). ap bears other ∙ numbered_bears n 0 ts ∙ sym (ap bears one);
}

-- a tree and then one that was moved
join : (n : ℕ) (a b u : Tree) → IsMovedTree n b u → IsJoined n a b (a then u)
join n a b u moved = record {
  report = λ text. (flat text [] u, read_in_parts.moved_report text n b u moved, flat-then text [] a u);
  nodes_of = nodes-then a u ∙ ap (λ k. nodes a + k) (read_in_parts.moved_nodes n b u moved);
  bears_of = bears-then a u ∙ ap (λ x. bears a || x) (read_in_parts.moved_bears n b u moved);
}

-- ---- the trees of a list and of its parts

module _ {A : Type 0} (trees : A → Tree → Type 0) where
  from_two : (n : ℕ) (xs ys : List A) (t : Tree) → TreesItemsFrom n trees (xs ++ ys) t ↔ TreesBoth (TreesItemsFrom n trees xs) (TreesItemsFrom (n + length xs) trees ys) t
  from_two n xs ys t =
      let one = enumerate_from n xs in
      let other = enumerate_from (n + length xs) ys in
      rw (enumerate_append n xs ys) (each_split index_part trees one other t, each_append index_part trees one other t)

  from_parts : (n : ℕ) (parts : List (List A)) (t : Tree) → TreesItemsFrom n trees (flat_map (λ part. part) parts) t ↔ TreesParts n trees parts t
  from_parts n [] t = (λ v. v, λ v. v)
  from_parts n (xs ∷ parts) t =
      let two = from_two n xs (flat_map (λ part. part) parts) t in (
        λ v. let (a, b, va, vb, is) = two.0 v in (a, b, va, (from_parts (n + length xs) parts b).0 vb, is),
        λ (a, b, va, vb, is). two.1 (a, b, va, (from_parts (n + length xs) parts b).1 vb, is),
      )

  -- ---- the trees of the same items under other indexes

  -- trees of these items, which are numbered from m in one tree and from n in the other
  abbrev Renumbered : ℕ → ℕ → List A → Tree → Type 0
  Renumbered m n xs u = (t : Tree) × TreesItemsFrom m trees xs t × ((ts : List Tree) × (t ≡ numbered m ts) × (u ≡ numbered n ts))

  renumbered : (m n : ℕ) (xs : List A) (u : Tree) → TreesItemsFrom n trees xs u → Renumbered m n xs u
  renumbered m n [] u v = (nothing, refl, ([], refl, v))
  renumbered m n (x ∷ xs) u (a, b, (s, vs, is), vb, cut) =
      let (t, vt, (ts, one, other)) = renumbered (m + 1) (n + 1) xs b vb in (
        under (index_part m) s t,
        (under (index_part m) s nothing, t, (s, vs, refl), vt, refl),
        (s ∷ ts, ap (under (index_part m) s) one, cut ∙ ap (λ x. x then b) is ∙ ap (under (index_part n) s) other),
      )

  renumbered_back : (m n : ℕ) (xs : List A) (t : Tree) (ts : List Tree) → TreesItemsFrom m trees xs t → t ≡ numbered m ts → TreesItemsFrom n trees xs (numbered n ts)
  renumbered_back m n [] t [] v is = refl
  renumbered_back m n [] t (r ∷ ts) v is = cc
  renumbered_back m n (x ∷ xs) t [] (a, b, (s, vs, at), vb, cut) is = cc
  renumbered_back m n (x ∷ xs) t (r ∷ ts) (a, b, (s, vs, at), vb, cut) is =
      let same : under (index_part m) s b ≡ under (index_part m) r (numbered (m + 1) ts) = sym (cut ∙ ap (λ y. y then b) at) ∙ is in
      let item : s ≡ r = cc in
      let rest : b ≡ numbered (m + 1) ts = cc in
      (under (index_part n) r nothing, numbered (n + 1) ts, (r, subst (trees x) item vs, refl), renumbered_back (m + 1) (n + 1) xs b ts vb rest, refl)

  two_parts : (xs ys : List A) (t : Tree) → TreesItems trees (xs ++ ys) t ↔ TreesBoth (TreesItems trees xs) (TreesItemsFrom (length xs) trees ys) t
  two_parts xs ys t =
      let e : length xs ≡ 0 + length xs = omega arith in
      rw e (from_two 0 xs ys t)

  pub items_in_parts : ItemsInParts trees
  items_in_parts = record {
    cut = λ xs ys t v.
        let (a, u, va, vu, is) = (two_parts xs ys t).0 v in
        let (b, vb, moved) = renumbered 0 (length xs) ys u vu in
        (a, b, va, vb, subst (IsJoined (length xs) a b) (sym is) (join (length xs) a b u moved));
    joined = λ xs ys a b va vb.
        let (c, vc, (ts, one, other)) = renumbered 0 0 ys b vb in
        let u = numbered (length xs) ts in
        let vu = renumbered_back 0 (length xs) ys b ts vb other in
        (a then u, (two_parts xs ys (a then u)).1 (a, u, va, vu, refl), join (length xs) a b u (ts, other, refl));
    two = two_parts;
    any = λ parts t. from_parts 0 parts t;
    moved = λ n xs u. (
      λ v. renumbered 0 n xs u v,
      λ (t, vt, (ts, one, other)). subst (TreesItemsFrom n trees xs) (sym other) (renumbered_back 0 n xs t ts vt one),
    );
  }
