-- Lemmas on numbers that digits alone write.
use Rattle.std.proofs.Common.{◌≡◌, ℕ, ◌*◌, ◌%◌, ◌^◌, ◌<◌, ◌≤◌, inl, inr, true, false, ◌==◌, List, [], codes, Option, Some, None, IfSome, option_map, unwrap_or, Ok, pos, ◌<ℤ◌, is_gt, is_lt, Less, Equal, Greater, refl, sym, ap, ◌∙◌, arith, eq-eqb, leb-true}
use Rattle.std.proofs.lemmas.Bool.{cases_order, false≢true}
use Rattle.std.specs.Cmp.{int_cmp_is}
use Rattle.std.specs.Float.Numeral.{scan_numeral}
use Rattle.json.specs.Json.{Json}
use Rattle.json.specs.Find.{as_number}
use Rattle.garde_i18n.specs.Datum.{Datum}
use Rattle.garde_report.specs.Report.{Entry}
use Rattle.garde_report.specs.Trace.{Trace}
use Rattle.garde_decimal.specs.Value.{Rational, decimal_of, order}
use Rattle.garde_rules.specs.{Fault}
use Rattle.garde_rules.specs.Range.{beyond_answer, range_fault}
use Rattle.garde.specs.Fields.{is}
use Rattle.garde.specs.Visits.{Visited, found, none, only}
use Rattle.garde.proofs.Author.{visited_none}
use Rattle.garde_schema.specs.Decimals.{is_beyond, is_multiple_of}
use Rattle.garde_schema.specs.Whole.{number_visits}
use Rattle.garde_described.specs.Keywords.{bound_asks, is_integer, least_found, most_found, not_a_number, on_number}
use Rattle.garde_described.specs.Whole.{IsWhole, ordered, whole}
use Rattle.garde_described.proofs.Lemmas.{of_some, told_as}

pub not_below : (a b : ℕ) → b ≤ a → is_lt (order (whole a) (whole b)) ≡ false
not_below a b h =
    elim (cases_order a b) [
      | inr (inl less) ↦ absurd (omega (arith, h, less))
      | inl same ↦ ap is_lt (sym (int_cmp_is (pos (a * 10 ^ 0)) (pos (b * 10 ^ 0)) Equal (ap (λ n. pos (n * 10 ^ 0)) same)))
      | inr (inr more) ↦ ap is_lt (sym (int_cmp_is (pos (a * 10 ^ 0)) (pos (b * 10 ^ 0)) Greater (let l : pos (b * 1) <ℤ pos (a * 1) = grind arith in l)))
    ]

pub not_above : (a b : ℕ) → a ≤ b → is_gt (order (whole a) (whole b)) ≡ false
not_above a b h =
    elim (cases_order a b) [
      | inr (inl less) ↦ ap is_gt (sym (int_cmp_is (pos (a * 10 ^ 0)) (pos (b * 10 ^ 0)) Less (let l : pos (a * 1) <ℤ pos (b * 1) = grind arith in l)))
      | inl same ↦ ap is_gt (sym (int_cmp_is (pos (a * 10 ^ 0)) (pos (b * 10 ^ 0)) Equal (ap (λ n. pos (n * 10 ^ 0)) same)))
      | inr (inr more) ↦ absurd (omega (arith, h, more))
    ]

least_none : (bound : List ℕ) (a b : ℕ) → decimal_of bound ≡ Some (whole b) → b ≤ a → least_found bound (whole a) ≡ None
least_none bound a b is h =
    ap (λ o. range_fault bound [] (beyond_answer (is_beyond is_lt o (whole a)) false)) is
    ∙ ap (λ t. range_fault bound [] (beyond_answer t false)) (not_below a b h)

most_none : (bound : List ℕ) (a b : ℕ) → decimal_of bound ≡ Some (whole b) → a ≤ b → most_found bound (whole a) ≡ None
most_none bound a b is h =
    ap (λ o. range_fault [] bound (beyond_answer false (is_beyond is_gt o (whole a)))) is
    ∙ ap (λ t. range_fault [] bound (beyond_answer false t)) (not_above a b h)

module _ {text : Datum → List ℕ} {E : Type 0} where
  -- where nothing is found nothing is told
  found_nothing : (fault : Option Fault) {walk : Trace} {old : List Entry} → fault ≡ None → Visited {E = E} (found fault) text walk walk old old (Ok tt)
  unfolding found none only
  found_nothing fault {walk} {old} is =
      let told : Visited {E = E} none text walk walk old old (Ok tt) = visited_none in
      let nothing : Visited {E = E} (found None) text walk walk old old (Ok tt) = record { ok = told.ok; err = tt; why = tt } in
      told_as (ap found (sym is)) nothing

  bound_met : (finds : List ℕ → Rational → Option Fault) (v j : Json) (bound : List ℕ) (a : ℕ) {walk : Trace} {old : List Entry} → as_number v ≡ Some bound → IsWhole j a → finds bound (whole a) ≡ None → Visited {E = E} (bound_asks finds v j) text walk walk old old (Ok tt)
  bound_met finds v j bound a of_bound of_number none =
      of_some (λ s. on_number (λ n. is (finds s n)) j) (as_number v) bound of_bound
      (of_some (λ s. number_visits not_a_number (λ n. is (finds bound n)) (decimal_of s)) (as_number j) of_number.0 of_number.1
      (told_as (ap (λ o. number_visits not_a_number (λ n. is (finds bound n)) o) (sym of_number.2)) (found_nothing (finds bound (whole a)) none)))

  -- a number is not below, or not above, its bound
  pub least_met : (v j : Json) (bound : List ℕ) (r s : Option ℕ) {walk : Trace} {old : List Entry} → as_number v ≡ Some bound → IfSome r (λ b. decimal_of bound ≡ Some (whole b)) → IfSome s (λ a. IsWhole j a) → ordered r s ≡ true → Visited {E = E} (bound_asks least_found v j) text walk walk old old (Ok tt)
  least_met v j bound (Some b) (Some a) is of_bound of_number met = bound_met least_found v j bound a is of_number (least_none bound a b of_bound (leb-true b a met))
  least_met v j bound (Some b) None is of_bound of_number met = absurd (false≢true met)
  least_met v j bound None s is of_bound of_number met = absurd (false≢true met)

  pub most_met : (v j : Json) (bound : List ℕ) (s r : Option ℕ) {walk : Trace} {old : List Entry} → as_number v ≡ Some bound → IfSome s (λ a. IsWhole j a) → IfSome r (λ b. decimal_of bound ≡ Some (whole b)) → ordered s r ≡ true → Visited {E = E} (bound_asks most_found v j) text walk walk old old (Ok tt)
  most_met v j bound (Some a) (Some b) is of_number of_bound met = bound_met most_found v j bound a is of_number (most_none bound a b of_bound (leb-true a b met))
  most_met v j bound (Some a) None is of_number of_bound met = absurd (false≢true met)
  most_met v j bound None r is of_number of_bound met = absurd (false≢true met)

one_is : decimal_of (codes "1") ≡ Some (whole 1)
unfolding scan_numeral
one_is = refl

no_rest : (n : ℕ) → (n * 1 % 1 == 0) ≡ true
no_rest n = eq-eqb (n * 1 % 1) 0 (omega arith)

-- such a number is an integer
pub whole_integer : (text : List ℕ) (n : ℕ) → decimal_of text ≡ Some (whole n) → is_integer text ≡ true
whole_integer text n is =
    ap (λ o. unwrap_or (option_map (λ v. is_multiple_of (decimal_of (codes "1")) v) o) false) is
    ∙ (ap (λ o. is_multiple_of o (whole n)) one_is ∙ no_rest n)
