-- Lemmas on where references lead, and on what is asked of a schema.
use Rattle.std.proofs.Common.{◌≡◌, ℕ, zero, suc, ◌-◌, ◌<◌, List, Option, Some, None, Result, Ok, Bool, true, false, ◌⊎◌, inl, inr, arith, ap, sym, subst, ◌∙◌}
use Rattle.std.specs.Prelude.{option_map, unwrap_or}
use Rattle.std.specs.List.{list_any}
use Rattle.garde_i18n.specs.Datum.{Datum}
use Rattle.garde_report.specs.Report.{Entry}
use Rattle.garde_report.specs.Trace.{Trace}
use Rattle.json.specs.Json.{Json}
use Rattle.garde.specs.Visits.{Visits, Visited, none}
use Rattle.garde.proofs.Author.{visited_none}
use Rattle.garde_described.specs.Faults.{in_turn}
use Rattle.garde_described.specs.Keywords.{keyword_of, membered, of}
use Rattle.garde_described.specs.Links.{keyword_links, leads_far, links, one_link, step_leads}
use Rattle.garde_described.specs.declared.keyword.Keyword.{Keyword}
use Rattle.garde_described.specs.declared.keyword.Keyword.TheVariants as k
use Rattle.garde_schema.specs.Forms.{FormTexts}
use Rattle.garde_described.proofs.Lemmas.{told_as}

-- whether references lead far, of no schema more and of one
pub leads_zero : (root : Json) (n : ℕ) (s : Json) → n ≡ 0 → leads_far root n s ≡ true
unfolding leads_far
leads_zero root n s none = ap (λ m. leads_far root m s) none

abbrev one_leads : Json → ℕ → Option (List (List ℕ × Json)) → Bool
one_leads root n ms = unwrap_or (option_map (λ l. list_any (λ m. step_leads (leads_far root n) root (keyword_of m.0) m.1) l) ms) false

leads_next : (root : Json) (n : ℕ) (s : Json) → 0 < n → leads_far root n s ≡ one_leads root (n - 1) (membered s)
unfolding leads_far
leads_next root zero s some = absurd (omega (arith, some))
leads_next root (suc n) s some = let one : suc n - 1 ≡ n = omega arith in ap (λ m. one_leads root m (membered s)) (sym one)

pub leads_some : (root : Json) (n : ℕ) (s : Json) (ms : List (List ℕ × Json)) → 0 < n → membered s ≡ Some ms → leads_far root n s ≡ list_any (λ m. step_leads (leads_far root (n - 1)) root (keyword_of m.0) m.1) ms
leads_some root n s ms some is = leads_next root n s some ∙ ap (one_leads root (n - 1)) is

pub leads_none : (root : Json) (n : ℕ) (s : Json) → 0 < n → membered s ≡ None → leads_far root n s ≡ false
leads_none root n s some is = leads_next root n s some ∙ ap (one_leads root (n - 1)) is

module _ {text : Datum → List ℕ} {E : Type 0} where
  -- a keyword that asks nothing of a schema
  pub links_nothing : (each : Json → Visits) (texts : FormTexts) (root : Json) (is_whole : Bool) (s : Json) (key : Keyword) (v : Json) {walk : Trace} {old : List Entry} → ((key ≡ k.Enum) ⊎ ((key ≡ k.Const) ⊎ ((key ≡ k.Required) ⊎ (key ≡ k.Annotation)))) → Visited {E = E} (keyword_links each texts root is_whole s key v) text walk walk old old (Ok tt)
  links_nothing each texts root is_whole s key v (inl is) = told_as (ap (λ q. keyword_links each texts root is_whole s q v) (sym is)) visited_none
  links_nothing each texts root is_whole s key v (inr (inl is)) = told_as (ap (λ q. keyword_links each texts root is_whole s q v) (sym is)) visited_none
  links_nothing each texts root is_whole s key v (inr (inr (inl is))) = told_as (ap (λ q. keyword_links each texts root is_whole s q v) (sym is)) visited_none
  links_nothing each texts root is_whole s key v (inr (inr (inr is))) = told_as (ap (λ q. keyword_links each texts root is_whole s q v) (sym is)) visited_none

  -- what is asked of a schema, no deeper and one level deeper
  pub links_zero : (texts : FormTexts) (root : Json) (n : ℕ) (is_whole : Bool) (s : Json) {walk : Trace} {old : List Entry} → n ≡ 0 → Visited {E = E} (links texts root n is_whole s) text walk walk old old (Ok tt)
  unfolding links
  links_zero texts root n is_whole s {walk} {old} none = subst (λ m. Visited {E = E} (links texts root m is_whole s) text walk walk old old (Ok tt)) (sym none) visited_none

  pub links_next : (texts : FormTexts) (root : Json) (n : ℕ) (is_whole : Bool) (s : Json) {before after : Trace} {old new : List Entry} {result : Result Unit E} → 0 < n → Visited (of (in_turn (one_link (links texts root (n - 1) false) texts root is_whole s)) (membered s)) text before after old new result → Visited (links texts root n is_whole s) text before after old new result
  unfolding links
  links_next texts root zero is_whole s some told = absurd (omega (arith, some))
  links_next texts root (suc n) is_whole s {before} {after} {old} {new} {result} some told =
      let one : suc n - 1 ≡ n = omega arith in
      subst (λ m. Visited (of (in_turn (one_link (links texts root m false) texts root is_whole s)) (membered s)) text before after old new result) one told
