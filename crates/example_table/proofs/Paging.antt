-- What a page of rows shows.
use Rattle.std.proofs.Common.{◌≡◌, ◌∙◌, sym, ap, subst, refl, ℕ, ℤ, ◌<ℤ◌, take, map, IsTrue, is_gt, pos, List, [], ◌∷◌, ◌++◌, length, flat_map, filter, codes, Bool, true, false, ◌&&◌, cond, None, Some, Less, Equal, arith, IsPermutation}
use Rattle.std.specs.Prelude.{int_lt}
use Rattle.std.proofs.lemmas.Bool.Decides.{nat_tests}
use Rattle.std.proofs.lemmas.Int.{ints}
use Rattle.std.specs.Ordering.{ordering_then}
use Rattle.std.specs.List.{AllByRecursion}
use Rattle.sqlite.specs.declared.types.Value.{Value}
use Rattle.sqlite.specs.declared.types.Value.TheVariants.{Null, Int}
use Rattle.sqlite.specs.Collation.TheVariants.{Binary}
use Rattle.sqlite.specs.Command.{Command}
use Rattle.sqlite.specs.Command.TheVariants.{Select}
use Rattle.sqlite.specs.Edit.{id_in}
use Rattle.sqlite.specs.Tree.{IsTable, rowid}
use Rattle.sqlite.specs.View.{is_int}
use Rattle.sqlite_rules.proofs.TableLemmas.{int_is}
use Rattle.sqlite.specs.Ops.{binary, is_true}
use Rattle.sqlite.specs.Order.{Row, column, value_cmp}
use Rattle.sqlite.specs.Program.{overlay}
use Rattle.sqlite.specs.Query.{Query, inner, end, IsAnswer, Output, output, output_cmp, matches_as}
use Rattle.sqlite_sql.proofs.QueryLemmas.{output_cmp_total}
use Rattle.sqlite_keyed.proofs.ListLemmas.{ascending-filter, ascending-map, ascending_weaker}
use Rattle.sqlite_keyed.proofs.SortLemmas.{sorted_unique}
use Rattle.sqlite_trees.proofs.ListLemmas.{map-map}
use Rattle.sqlite_trees.specs.Tree.{IsAscending}
use Rattle.sqlite.specs.Term.{Env, lit, col, op2}
use Rattle.sqlite.specs.State.{State, Shown}
use Rattle.sqlite.specs.Listing.{understood, reads_listing}
use Rattle.sqlite.proofs.Callers.{IsPlain, command_of, reads_as}
use Rattle.sqlite_sql.specs.declared.ops.BinaryOp.TheVariants as op
use Rattle.sqlite_sql.specs.declared.ops.CompareOp.TheVariants as test
use Rattle.sqlite_value.specs.Keys.{ascending}
use Rattle.sqlite_value.proofs.OrderLemmas.{value_cmp-Int, then-Equal}
use Rattle.sqlite_tied.specs.Compute.{everything}
use Rattle.example_table.specs.Stock.{stock_schema, HasTable, Ordered, Stays, behind, shown, page_behind}
use Rattle.example_table.proofs.Finding.{shown_stays, truthful}

abbrev pub page_text : List ℕ
page_text = codes "SELECT id, code, name, quantity, price, page FROM stock WHERE id > ?1 ORDER BY id LIMIT 1000"

page_plain : IsPlain (understood stock_schema page_text)
unfolding understood everything
page_plain = (refl, refl)

pub page_stays : (old new : State) (last : ℤ) (rows : List Row) → HasTable old → Shown page_text (Int last ∷ []) old new rows → Stays old new
page_stays old new last rows table h = shown_stays page_text (Int last ∷ []) page_plain old new rows table h

-- what is shown of each row, from rows whose id is greater, in the order of their ids, a thousand at most
abbrev page_query : Query
page_query = record {
  from = inner 0 end;
  filter = op2 (op.Compare test.Gt Binary) (col 1 0) (col 0 0) ∷ [];
  group = None;
  project = col 1 0 ∷ col 1 2 ∷ col 1 3 ∷ col 1 4 ∷ col 1 5 ∷ col 1 6 ∷ [];
  distinct = false;
  collations = [];
  order = (col 1 0, ascending Binary) ∷ [];
  limit = lit (Int (pos 1000));
  offset = lit (Int (pos 0));
}

page_is : (command_of (understood stock_schema page_text) ≡ Select (record { lets = []; body = page_query }) (codes "id" ∷ codes "code" ∷ codes "name" ∷ codes "quantity" ∷ codes "price" ∷ codes "page" ∷ []))
    × (reads_listing stock_schema page_text ≡ false)
unfolding understood everything
page_is = (refl, refl)

abbrev greater : Value → ℤ → Bool
greater v last = is_true (binary (op.Compare test.Gt Binary) v (Int last))

greater_int : (n last : ℤ) → greater (Int n) last ≡ int_lt last n
unfolding binary
greater_int n last =
    truthful (is_gt (value_cmp (Int n) (Int last))) ∙ ap is_gt (value_cmp-Int n last) ∙ grind (arith, ints, nat_tests)

greater_is : (last : ℤ) (r : Row) → IsTrue (is_int (rowid r)) → greater (rowid r) last ≡ int_lt last (id_in (rowid r))
greater_is last r keyed = ap (λ v. greater v last) (int_is (rowid r) keyed) ∙ greater_int (id_in (rowid r)) last

-- what a row is sorted by, and what is shown of it
abbrev put_out : Row → Output
put_out r = (rowid r ∷ [], shown r)

abbrev hits_behind : ℤ → Row → List Env
hits_behind last r = matches_as Null (λ _. []) page_query.filter end ((Int last ∷ []) ∷ r ∷ [])

staged_step : (last : ℤ) (r : Row) (envs : List Env) (rows : List Row) (a b : Bool) → a ≡ b → map (output page_query) envs ≡ map put_out rows
    → map (output page_query) (cond (a && true) (((Int last ∷ []) ∷ r ∷ []) ∷ []) [] ++ envs) ≡ map put_out (cond b (r ∷ rows) rows)
staged_step last r envs rows true true e same = ap (λ more. put_out r ∷ more) same
staged_step last r envs rows false false e same = same
staged_step last r envs rows true false e same = absurd (let f = e in cc)
staged_step last r envs rows false true e same = absurd (let f = e in cc)

staged_are : (last : ℤ) (rows : List Row) → AllByRecursion (λ r. IsTrue (is_int (rowid r))) rows → map (output page_query) (flat_map (hits_behind last) rows) ≡ map put_out (behind last rows)
staged_are last [] keyed = refl
staged_are last (r ∷ rows) keyed =
    staged_step last r (flat_map (hits_behind last) rows) (behind last rows) (greater (rowid r) last) (int_lt last (id_in (rowid r))) (greater_is last r keyed.0) (staged_are last rows keyed.1)

in_order : (a b : Row) → value_cmp (rowid a) (rowid b) ≡ Less → output_cmp page_query (put_out a) (put_out b) ≡ Less
in_order a b less = then-Equal (value_cmp (rowid a) (rowid b)) ∙ less

rises : (last : ℤ) (rows : List Row) → IsTable rows → IsAscending (λ a b. output_cmp page_query a b ≡ Less) (map put_out (behind last rows))
rises last rows table =
    ascending-map (λ a b. output_cmp page_query a b ≡ Less) put_out (behind last rows) (
    ascending-filter (λ a b. output_cmp page_query (put_out a) (put_out b) ≡ Less) (λ r. int_lt last (id_in (rowid r))) rows (
    ascending_weaker (λ a b. value_cmp (rowid a) (rowid b) ≡ Less) (λ a b. output_cmp page_query (put_out a) (put_out b) ≡ Less) in_order rows table))

-- a page is what is shown of the first thousand rows behind one, in their order
pub page_shows : (old new : State) (last : ℤ) (rows : List Row) → HasTable old → Ordered (old.now.trees 0) → Shown page_text (Int last ∷ []) old new rows → rows ≡ page_behind last (old.now.trees 0)
page_shows old new last rows table sorted h =
    let params = Int last ∷ [] in
    let tree = old.now.trees 0 in
    let got = reads_as page_text params old new stock_schema table.0 _ page_is.0 page_plain page_is.1 rows h in
    let a : IsAnswer page_query (overlay old.now.trees []) params rows = got.answer Null in
    let kept : a.kept ≡ map put_out (behind last tree) = a.distinct ∙ ap (map (output page_query)) a.grouped ∙ staged_are last tree sorted.1 in
    let same : IsPermutation (map put_out (behind last tree)) a.ordered = subst (λ l. IsPermutation l a.ordered) kept a.same in
    let ordered : a.ordered ≡ map put_out (behind last tree) = sorted_unique (output_cmp page_query) (output_cmp_total page_query) (map put_out (behind last tree)) a.ordered (rises last tree sorted.0) same a.sorted in
    a.shown ∙ ap (λ all. take 1000 (map (λ (o : Output). o.1) all)) ordered ∙ ap (take 1000) (map-map (λ (o : Output). o.1) put_out (behind last tree))
