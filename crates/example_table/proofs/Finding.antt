-- What the lookup of a code finds.
use Rattle.std.proofs.Common.{◌≡◌, ◌∙◌, sym, ap, subst, refl, ℕ, ℤ, zero, suc, ◌<◌, ◌<ℤ◌, take, map, IsTrue, is_gt, ◌==◌, pos, negsuc, List, [], ◌∷◌, ◌++◌, length, flat_map, codes, Bool, true, false, not, ◌&&◌, cond, None, Some, inl, inr, arith, bytes_eq, is_eq}
use Rattle.std.proofs.lemmas.Bool.{true≢false}
use Rattle.std.proofs.Math.Dec.{eqb-suc-zero}
use Rattle.std.specs.Bool.{Decides}
use Rattle.std.proofs.lemmas.Slice.Eq.{bytes_eq-Decides}
use Rattle.std.proofs.lemmas.Map.Text.{is_eq-slice_cmp}
use Rattle.std.proofs.lemmas.List.Sorted.{length_permutation}
use Rattle.std.proofs.lemmas.List.{length-map}
use Rattle.sqlite.specs.declared.types.Value.{Value}
use Rattle.sqlite.specs.declared.types.Value.TheVariants.{Null, Int, Real, Text, Blob}
use Rattle.sqlite.specs.Collation.TheVariants.{Binary}
use Rattle.std.specs.List.{AllByRecursion}
use Rattle.std.proofs.lemmas.Bool.Decides.{nat_tests}
use Rattle.std.proofs.lemmas.Int.{ints}
use Rattle.sqlite.specs.Command.{Command}
use Rattle.sqlite.specs.Command.TheVariants.{Select}
use Rattle.sqlite.specs.Edit.{id_in}
use Rattle.sqlite.specs.Tree.{rowid}
use Rattle.sqlite.specs.View.{is_int}
use Rattle.sqlite_rules.proofs.TableLemmas.{int_is}
use Rattle.sqlite.specs.Ops.{binary, is_true, from_truth}
use Rattle.sqlite.specs.Order.{Row, column, value_cmp}
use Rattle.sqlite.specs.Program.{overlay}
use Rattle.sqlite.specs.Query.{Query, inner, end, IsAnswer, Output, output, matches_as}
use Rattle.sqlite.specs.Term.{Env, lit, col, op2}
use Rattle.sqlite.specs.State.{State, Shown, ShowsRows}
use Rattle.sqlite.specs.Clock.{timed}
use Rattle.sqlite.specs.Listing.{understood, reads_listing}
use Rattle.sqlite.proofs.Callers.{IsPlain, command_of, reads_as}
use Rattle.sqlite_sql.specs.declared.ops.BinaryOp.TheVariants as op
use Rattle.sqlite_sql.specs.declared.ops.CompareOp.TheVariants as test
use Rattle.sqlite_value.proofs.OrderLemmas.{value_cmp-Int, value_cmp-Text, value_cmp-apart}
use Rattle.sqlite_tied.specs.Compute.{everything}
use Rattle.example_import.specs.Line.{text}
use Rattle.example_import.specs.Import.{Tells}
use Rattle.example_table.specs.Stock.{stock_schema, cell, lines_in, HasTable, Ordered, Stays}

abbrev pub select_text : List ℕ
select_text = codes "SELECT id FROM stock WHERE code = ?1"

abbrev query : Query
query = record {
  from = inner 0 end;
  filter = op2 (op.Compare test.Eq Binary) (col 1 2) (col 0 0) ∷ [];
  group = None;
  project = col 1 0 ∷ [];
  distinct = false;
  collations = [];
  order = [];
  limit = lit (Int (negsuc 0));
  offset = lit (Int (pos 0));
}

select_is : (command_of (understood stock_schema select_text) ≡ Select (record { lets = []; body = query }) (codes "id" ∷ [])) × (reads_listing stock_schema select_text ≡ false)
unfolding understood everything
select_is = (refl, refl)

select_plain : IsPlain (understood stock_schema select_text)
unfolding understood everything
select_plain = (refl, refl)

-- ---- one row

abbrev equals : Value → List ℕ → Bool
equals v code = is_true (binary (op.Compare test.Eq Binary) v (Text code))

pub truthful : (b : Bool) → is_true (from_truth (Some b)) ≡ b
truthful true = refl
truthful false = refl

equals_text : (t code : List ℕ) → equals (Text t) code ≡ bytes_eq t code
unfolding binary
equals_text t code = truthful (is_eq (value_cmp (Text t) (Text code))) ∙ ap is_eq (value_cmp-Text t code) ∙ is_eq-slice_cmp t code

equals_null : (code : List ℕ) → equals Null code ≡ false
unfolding binary
equals_null code = refl

equals_int : (n : _) (code : List ℕ) → equals (Int n) code ≡ false
unfolding binary
equals_int n code = truthful (is_eq (value_cmp (Int n) (Text code))) ∙ ap is_eq (value_cmp-apart (Int n) (Text code) (λ e. absurd (omega (arith, e))))

equals_real : (x : _) (code : List ℕ) → equals (Real x) code ≡ false
unfolding binary
equals_real x code = truthful (is_eq (value_cmp (Real x) (Text code))) ∙ ap is_eq (value_cmp-apart (Real x) (Text code) (λ e. absurd (omega (arith, e))))

equals_blob : (b code : List ℕ) → equals (Blob b) code ≡ false
unfolding binary
equals_blob b code = truthful (is_eq (value_cmp (Blob b) (Text code))) ∙ ap is_eq (value_cmp-apart (Blob b) (Text code) (λ e. absurd (omega (arith, e))))

never : {P : Type 0} (b : Bool) → b ≡ false → ¬ P → Decides b P
never b off none = (λ e. absurd (true≢false (sym e ∙ off)), λ p. absurd (none p))

decides : (v : Value) (code : List ℕ) → Decides (equals v code) (cell v ≡ text code)
decides Null code = never _ (equals_null code) (λ p. let q = p in cc)
decides (Int n) code = never _ (equals_int n code) (λ p. let q = p in cc)
decides (Real x) code = never _ (equals_real x code) (λ p. let q = p in cc)
decides (Text t) code = (
  λ e. ap text ((bytes_eq-Decides t code).0 (sym (equals_text t code) ∙ e)),
  λ p. equals_text t code ∙ (bytes_eq-Decides t code).1 (let q = p in cc),
)
decides (Blob b) code = never _ (equals_blob b code) (λ p. let q = p in cc)

-- ---- all rows

abbrev hits : List ℕ → Row → List Env
hits code r = matches_as Null (λ _. []) query.filter end ((Text code ∷ []) ∷ r ∷ [])

extend : (code : List ℕ) (r : Row) (rows : List Row) (c : Bool) → ¬ (cell (column r 2) ≡ text code) → Tells code (lines_in rows) c → Tells code (lines_in (r ∷ rows)) c
extend code r rows true off t = inr t
extend code r rows false off t = λ has. elim has [
  | inl same ↦ off same
  | inr later ↦ t later
]

abbrev shows : List ℕ → Row → List Env → Bool → Bool
shows code r more b = not (length (cond (b && true) (((Text code ∷ []) ∷ r ∷ []) ∷ []) [] ++ more) == 0)

first : (code : List ℕ) (r : Row) (rows : List Row) (more : List Env) (b : Bool) → equals (column r 2) code ≡ b → Tells code (lines_in rows) (not (length more == 0)) → Tells code (lines_in (r ∷ rows)) (shows code r more b)
first code r rows more true is t = subst (Tells code (lines_in (r ∷ rows))) (sym (ap not (eqb-suc-zero (length more)))) (inl ((decides (column r 2) code).0 is))
first code r rows more false is t = extend code r rows (not (length more == 0)) (λ same. true≢false (sym ((decides (column r 2) code).1 same) ∙ is)) t

scan : (code : List ℕ) (rows : List Row) → Tells code (lines_in rows) (not (length (flat_map (hits code) rows) == 0))
scan code [] = λ none. none
scan code (r ∷ rows) = first code r rows (flat_map (hits code) rows) (equals (column r 2) code) refl (scan code rows)

pub finds : (old new : State) (code : List ℕ) (rows : List Row) → HasTable old → Shown select_text (Text code ∷ []) old new rows → Tells code (lines_in (old.now.trees 0)) (not (length rows == 0))
finds old new code rows table h =
    let params = Text code ∷ [] in
    let got = reads_as select_text params old new stock_schema table.0 _ select_is.0 select_plain select_is.1 rows h in
    let a : IsAnswer query (overlay old.now.trees []) params rows = got.answer Null in
    let shown : length rows ≡ length a.ordered = ap length a.shown ∙ length-map a.ordered (λ (o : Output). o.1) in
    let kept : length a.ordered ≡ length a.kept = length_permutation a.kept a.ordered a.same in
    let staged : length a.kept ≡ length a.staged = ap length a.distinct ∙ length-map a.staged (output query) in
    let found : length a.staged ≡ length (flat_map (hits code) (old.now.trees 0)) = ap length a.grouped in
    subst (λ n. Tells code (lines_in (old.now.trees 0)) (not (n == 0))) (sym (shown ∙ kept ∙ staged ∙ found)) (scan code (old.now.trees 0))

-- a query that only reads changes nothing
pub shown_stays : (sql : List ℕ) (params : Row) → IsPlain (understood stock_schema sql) → (old new : State) (rows : List Row) → HasTable old → Shown sql params old new rows → Stays old new
unfolding Shown
shown_stays sql params is_plain old new rows table h =
    let plain = subst IsPlain (ap (λ s. understood s sql) (sym table.0) ∙ h.1.is) is_plain in
    let full = timed params h.0.formats h.1.now in
    let it = subst (ShowsRows old new sql h.0 full rows) plain.0 h.2 in
    (it.3.0.now_is, it.3.0.committed_is, it.3.0.mode)

pub found_stays : (old new : State) (code : List ℕ) (rows : List Row) → HasTable old → Shown select_text (Text code ∷ []) old new rows → Stays old new
found_stays old new code rows table h = shown_stays select_text (Text code ∷ []) select_plain old new rows table h
