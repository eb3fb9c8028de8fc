-- The rows behind one, as they are shown and as they are read.
use Rattle.std.proofs.Common.{◌≡◌, ◌∙◌, sym, ap, subst, refl, ℕ, zero, suc, ◌<◌, ℤ, Less, int_cmp, Bool, true, false, cond, List, [], ◌∷◌, drop, get_or, length, map, take, IsTrue, arith}
use Rattle.std.specs.Prelude.{int_lt}
use Rattle.std.proofs.lemmas.Bool.Decides.{nat_tests}
use Rattle.std.proofs.lemmas.Int.{ints}
use Rattle.std.specs.List.{AllByRecursion}
use Rattle.sqlite.specs.Edit.{id_in}
use Rattle.sqlite.specs.Order.{Row, value_cmp}
use Rattle.sqlite.specs.Tree.{IsTable, rowid}
use Rattle.sqlite.specs.View.{is_int}
use Rattle.sqlite_rules.proofs.TableLemmas.{int_is}
use Rattle.sqlite_value.proofs.OrderLemmas.{value_cmp-Int}
use Rattle.sqlite_keyed.proofs.ListLemmas.{all_both, all_weaker, all-filter, filter_all}
use Rattle.garde.specs.Visits.{Known}
use Rattle.example_import.specs.Row.{row_visits}
use Rattle.example_import.specs.declared.row.Row as article
use Rattle.example_table.specs.Reading.{IsStored, IsStoredAs}
use Rattle.example_table.specs.Stock.{Ordered, IsFront, behind, shown}
use Rattle.example_table.specs.declared.reading.Stored.{Stored}
use Rattle.example_table.specs.declared.reading.Stored.TheVariants as stored

-- ---- the rows that come after one, by their rowids

abbrev IsAfter : ℤ → Row → Type 0
IsAfter n r = int_lt n (id_in (rowid r)) ≡ true

less_is : (a b : ℤ) → int_cmp a b ≡ Less → int_lt a b ≡ true
less_is a b h = grind (arith, ints, nat_tests)

not_itself : (a : ℤ) → int_lt a a ≡ false
not_itself a = grind (arith, ints, nat_tests)

not_after : (a b : ℤ) → int_lt a b ≡ true → int_lt b a ≡ false
not_after a b h = grind (arith, ints, nat_tests)

still_after : (a b c : ℤ) → int_lt a b ≡ true → int_lt b c ≡ true → int_lt a c ≡ true
still_after a b c h k = grind (arith, ints, nat_tests)

module _ (x : Row) (keyed : IsTrue (is_int (rowid x))) where
  one_after : (y : Row) → value_cmp (rowid x) (rowid y) ≡ Less → IsTrue (is_int (rowid y)) → IsAfter (id_in (rowid x)) y
  one_after y less int = less_is (id_in (rowid x)) (id_in (rowid y)) (sym (value_cmp-Int (id_in (rowid x)) (id_in (rowid y))) ∙ rw (int_is (rowid x) keyed, int_is (rowid y) int) at less)

  all_after : (rows : List Row) → AllByRecursion (λ y. value_cmp (rowid x) (rowid y) ≡ Less) rows → AllByRecursion (λ y. IsTrue (is_int (rowid y))) rows → AllByRecursion (IsAfter (id_in (rowid x))) rows
  all_after rows up ints = all_both (λ y. value_cmp (rowid x) (rowid y) ≡ Less) (λ y. IsTrue (is_int (rowid y))) (IsAfter (id_in (rowid x))) one_after rows up ints

-- what is left behind the first row that is left is the others
pub left_behind : (last : ℤ) (rows : List Row) → Ordered rows → (r : Row) (rest : List Row) → behind last rows ≡ r ∷ rest → behind (id_in (rowid r)) rows ≡ rest
left_behind last [] ordered r rest is = absurd (let e = is in cc)
left_behind last (x ∷ rows) ordered r rest is = go (left_behind last rows (ordered.0.1, ordered.1.1) r rest) (int_lt last (id_in (rowid x))) refl is
  where
    above : AllByRecursion (IsAfter (id_in (rowid x))) rows
    above = all_after x ordered.1.0 rows ordered.0.0 ordered.1.1

    go : (behind last rows ≡ r ∷ rest → behind (id_in (rowid r)) rows ≡ rest) → (b : Bool) → int_lt last (id_in (rowid x)) ≡ b → cond b (x ∷ behind last rows) (behind last rows) ≡ r ∷ rest → behind (id_in (rowid r)) (x ∷ rows) ≡ rest
    go later true after same =
        let head : x ≡ r = cc in
        let tail : behind last rows ≡ rest = cc in
        let all : behind last rows ≡ rows = filter_all (λ y. int_lt last (id_in (rowid y))) rows (all_weaker (IsAfter (id_in (rowid x))) (IsAfter last) (λ y h. still_after last (id_in (rowid x)) (id_in (rowid y)) after h) rows above) in
        subst (λ y. behind (id_in (rowid y)) (x ∷ rows) ≡ rest) head (rw (not_itself (id_in (rowid x))) (filter_all (λ y. int_lt (id_in (rowid x)) (id_in (rowid y))) rows above ∙ sym all ∙ tail))
    go later false after same =
        let first : IsAfter (id_in (rowid x)) r = (subst (AllByRecursion (IsAfter (id_in (rowid x)))) same (all-filter (IsAfter (id_in (rowid x))) (λ y. int_lt last (id_in (rowid y))) rows above)).0 in
        rw (not_after (id_in (rowid x)) (id_in (rowid r)) first) (later same)

-- ---- the front of what is shown

-- the first of some is a front as long as it is
pub front_is : {X : Type 0} (n : ℕ) (page all : List X) → page ≡ take n all → page ≡ take (length page) all
front_is zero page all is = is ∙ rw is refl
front_is (suc n) page [] is = is ∙ rw is refl
front_is (suc n) [] (x ∷ all) is = refl
front_is (suc n) (p ∷ page) (x ∷ all) is =
    let head : p ≡ x = cc in
    let tail : page ≡ take n all = cc in
    rw (sym head) (ap (λ more. p ∷ more) (front_is n page all tail))

-- the first row of a page, with what is left
pub record Steps (p : Row) (page : List Row) (last : ℤ) (rows : List Row) : Type 0 where
  pub row : Row
  pub left : behind last rows ≡ row ∷ behind (id_in (rowid row)) rows
  pub is : p ≡ shown row
  pub front : IsFront page (id_in (rowid row)) rows

pub steps : (p : Row) (page : List Row) (last : ℤ) (rows : List Row) → Ordered rows → IsFront (p ∷ page) last rows → Steps p page last rows
steps p page last rows ordered front = go (behind last rows) refl front
  where
    go : (all : List Row) → behind last rows ≡ all → p ∷ page ≡ take (suc (length page)) (map shown all) → Steps p page last rows
    go [] is same = absurd (let e = same in cc)
    go (r ∷ rest) is same =
        let left : behind (id_in (rowid r)) rows ≡ rest = left_behind last rows ordered r rest is in
        record {
          row = r;
          left = is ∙ ap (λ more. r ∷ more) (sym left);
          is = cc;
          front = subst (λ more. page ≡ take (length page) (map shown more)) (sym left) (let tail : page ≡ take (length page) (map shown rest) = cc in tail);
        }

-- the same of a page that has a row
pub steps_on : (page rest : List Row) (p : Row) (last : ℤ) (rows : List Row) → Ordered rows → IsFront page last rows → 0 < length page → p ≡ get_or page 0 p → rest ≡ drop 1 page → Steps p rest last rows
steps_on [] rest p last rows ordered front some is after = absurd (omega (arith, some))
steps_on (q ∷ page) rest p last rows ordered front some is after =
    subst (λ (a : Row). Steps a rest last rows) (sym is) (subst (λ (b : List Row). Steps q b last rows) (sym after) (steps q page last rows ordered front))

-- nothing is left where a page is empty
pub none_left : (last : ℤ) (rows : List Row) → [] ≡ take 1000 (map shown (behind last rows)) → behind last rows ≡ []
none_left last rows is = go (behind last rows) is
  where
    go : (all : List Row) → [] ≡ take 1000 (map shown all) → all ≡ []
    go [] none = refl
    go (r ∷ rest) none = absurd (let e = none in cc)

-- ---- what is given

-- what is given of this row is given of some row
pub is_stored : (index : ℕ) (row : article.Row) (given : Stored) → IsStoredAs index row given → IsStored index given
is_stored index row (stored.Valid same) h = subst (λ (r : article.Row). Known (row_visits r)) (sym h.0) h.1
is_stored index row (stored.Faulty report) h = (row, h)
