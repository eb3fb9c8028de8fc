-- Lemmas on what is asked in turn, and by a schema.
use Rattle.std.proofs.Common.{◌≡◌, ℕ, zero, suc, ◌+◌, ◌-◌, ◌<◌, List, [], ◌∷◌, Option, Some, None, Result, Ok, true, false, if◌then◌else◌, ◌⊎◌, inl, inr, arith, ap, sym, subst, ◌∙◌}
use Rattle.std.specs.Result.{IsErr, IsOk}
use Rattle.garde_i18n.specs.Datum.{Datum}
use Rattle.garde_report.specs.Part.{Part, index_part}
use Rattle.garde_report.specs.Report.{Entry}
use Rattle.garde_report.specs.Trace.{Trace}
use Rattle.json.specs.Json.{Json}
use Rattle.garde.specs.Visits.{Visits, Visited, none, under}
use Rattle.garde.proofs.Author.{visited_none, visited_then, visited_stop}
use Rattle.garde_described.specs.Faults.{asks, by_place, faults, first_named, in_turn, member_asks, names_schema, numbered, present_asks, schema_asks, too_deep}
use Rattle.garde_described.specs.Keywords.{membered, same}
use Rattle.garde_described.specs.declared.keyword.Keyword.{Keyword}
use Rattle.garde_described.specs.declared.keyword.Keyword.TheVariants as k
use Rattle.garde_schema.specs.Forms.{FormTexts}
use Rattle.garde_tape.specs.declared.found.Found.{Found}
use Rattle.garde_tape.specs.declared.found.Found.TheVariants.{Once, Repeated}
use Rattle.garde_described.proofs.Lemmas.{told_as}

-- the first schema that a reference names
pub named_found : (text : List ℕ) (left : List (List ℕ × Json)) (m : List ℕ × Json) (ms : List (List ℕ × Json)) → left ≡ m ∷ ms → names_schema text m ≡ true → first_named text left ≡ Some m.1
unfolding first_named
named_found text left m ms step is = ap (first_named text) step ∙ ap (λ b. if b then Some m.1 else first_named text ms) is

pub named_next : (text : List ℕ) (left : List (List ℕ × Json)) (m : List ℕ × Json) (ms : List (List ℕ × Json)) → left ≡ m ∷ ms → names_schema text m ≡ false → first_named text left ≡ first_named text ms
unfolding first_named
named_next text left m ms step is = ap (first_named text) step ∙ ap (λ b. if b then Some m.1 else first_named text ms) is

pub named_end : (text : List ℕ) (left : List (List ℕ × Json)) → left ≡ [] → first_named text left ≡ None
unfolding first_named
named_end text left end = ap (first_named text) end

module _ {text : Datum → List ℕ} {E : Type 0} where
  -- what a name asks by what was found of it
  pub present_is : (texts : FormTexts) (name : Part) {f g : Found} {before after : Trace} {old new : List Entry} {result : Result Unit E} → f ≡ g → Visited (present_asks texts name f) text before after old new result → Visited (present_asks texts name g) text before after old new result
  present_is texts name same told = told_as (ap (λ f. present_asks texts name f) same) told

  pub present_there : (texts : FormTexts) (name : Part) (f : Found) {walk : Trace} {old : List Entry} → (((v : Json) × (f ≡ Once v)) ⊎ (f ≡ Repeated)) → Visited {E = E} (present_asks texts name f) text walk walk old old (Ok tt)
  present_there texts name f (inl (v, is)) = present_is texts name (sym is) visited_none
  present_there texts name f (inr is) = present_is texts name (sym is) visited_none

  -- what a member asks by what was found of its name
  pub member_is : (texts : FormTexts) (name : Part) (each : Json → Visits) {f g : Found} {before after : Trace} {old new : List Entry} {result : Result Unit E} → f ≡ g → Visited (member_asks texts name each f) text before after old new result → Visited (member_asks texts name each g) text before after old new result
  member_is texts name each same told = told_as (ap (λ f. member_asks texts name each f) same) told

  -- what a schema asks, where no schema more is asked, and where one is
  pub faults_zero : (texts : FormTexts) (root : Json) (n : ℕ) (s j : Json) {before after : Trace} {old new : List Entry} {result : Result Unit E} → n ≡ 0 → Visited too_deep text before after old new result → Visited (faults texts root n s j) text before after old new result
  unfolding faults
  faults_zero texts root n s j {before} {after} {old} {new} {result} none told = subst (λ m. Visited (faults texts root m s j) text before after old new result) (sym none) told

  pub faults_next : (texts : FormTexts) (root : Json) (n : ℕ) (s j : Json) (ms : Option (List (List ℕ × Json))) {before after : Trace} {old new : List Entry} {result : Result Unit E} → 0 < n → membered s ≡ ms → Visited (schema_asks (faults texts root (n - 1)) texts root s ms j) text before after old new result → Visited (faults texts root n s j) text before after old new result
  unfolding faults
  faults_next texts root zero s j ms some is told = absurd (omega (arith, some))
  faults_next texts root (suc n) s j ms {before} {after} {old} {new} {result} some is told =
      let one : suc n - 1 ≡ n = omega arith in
      subst (λ l. Visited (schema_asks (faults texts root n) texts root s l j) text before after old new result) (sym is)
      (subst (λ m. Visited (schema_asks (faults texts root m) texts root s ms j) text before after old new result) one told)

  -- a keyword that asks nothing
  pub asks_nothing : (each : Json → Json → Visits) (texts : FormTexts) (root s : Json) (key : Keyword) (v j : Json) {walk : Trace} {old : List Entry} → ((key ≡ k.Definitions) ⊎ ((key ≡ k.Id) ⊎ (key ≡ k.Annotation))) → Visited {E = E} (asks each texts root s key v j) text walk walk old old (Ok tt)
  asks_nothing each texts root s key v j (inl is) = told_as (ap (λ q. asks each texts root s q v j) (sym is)) visited_none
  asks_nothing each texts root s key v j (inr (inl is)) = told_as (ap (λ q. asks each texts root s q v j) (sym is)) visited_none
  asks_nothing each texts root s key v j (inr (inr is)) = told_as (ap (λ q. asks each texts root s q v j) (sym is)) visited_none

  -- each in turn
  pub turn_end : {A : Type 0} (each : A → Visits) (left : List A) {walk : Trace} {old : List Entry} → left ≡ [] → Visited {E = E} (in_turn each left) text walk walk old old (Ok tt)
  unfolding in_turn
  turn_end each left {walk} {old} end = subst (λ l. Visited {E = E} (in_turn each l) text walk walk old old (Ok tt)) (sym end) visited_none

  pub turn_then : {A : Type 0} (each : A → Visits) (left : List A) (x : A) (xs : List A) {before mid after : Trace} {old between new : List Entry} {first result : Result Unit E} → left ≡ x ∷ xs → Visited (each x) text before mid old between first → IsOk first → Visited (in_turn each xs) text mid after between new result → Visited (in_turn each left) text before after old new result
  unfolding in_turn
  turn_then each left x xs {before} {after = after} {old} {new = new} {result = result} step told is rest = subst (λ l. Visited (in_turn each l) text before after old new result) (sym step) (visited_then _ _ told is rest)

  pub turn_stop : {A : Type 0} (each : A → Visits) (left : List A) (x : A) (xs : List A) {before after : Trace} {old new : List Entry} {first result : Result Unit E} → left ≡ x ∷ xs → Visited (each x) text before after old new first → IsErr first → IsErr result → Visited (in_turn each left) text before after old new result
  unfolding in_turn
  turn_stop each left x xs {before} {after} {old} {new} {result = result} step told was is = subst (λ l. Visited (in_turn each l) text before after old new result) (sym step) (visited_stop _ _ told was is)

  -- each item with its index
  pub item_end : (each : ℕ → Json → Visits) (n : ℕ) (left : List Json) {walk : Trace} {old : List Entry} → left ≡ [] → Visited {E = E} (numbered each n left) text walk walk old old (Ok tt)
  unfolding numbered
  item_end each n left {walk} {old} end = subst (λ l. Visited {E = E} (numbered each n l) text walk walk old old (Ok tt)) (sym end) visited_none

  pub item_then : (each : ℕ → Json → Visits) (n : ℕ) (left : List Json) (j : Json) (js : List Json) {before mid after : Trace} {old between new : List Entry} {first result : Result Unit E} → left ≡ j ∷ js → Visited (each n j) text before mid old between first → IsOk first → Visited (numbered each (n + 1) js) text mid after between new result → Visited (numbered each n left) text before after old new result
  unfolding numbered
  item_then each n left j js {before} {after = after} {old} {new = new} {result = result} step told is rest = subst (λ l. Visited (numbered each n l) text before after old new result) (sym step) (visited_then _ _ told is rest)

  pub item_stop : (each : ℕ → Json → Visits) (n : ℕ) (left : List Json) (j : Json) (js : List Json) {before after : Trace} {old new : List Entry} {first result : Result Unit E} → left ≡ j ∷ js → Visited (each n j) text before after old new first → IsErr first → IsErr result → Visited (numbered each n left) text before after old new result
  unfolding numbered
  item_stop each n left j js {before} {after} {old} {new} {result = result} step told was is = subst (λ l. Visited (numbered each n l) text before after old new result) (sym step) (visited_stop _ _ told was is)

  -- each item by the schema at its place
  pub place_end : (each : Json → Json → Visits) (n : ℕ) (ss js : List Json) {walk : Trace} {old : List Entry} → ss ≡ [] → Visited {E = E} (by_place each n ss js) text walk walk old old (Ok tt)
  unfolding by_place
  place_end each n ss js {walk} {old} end = subst (λ l. Visited {E = E} (by_place each n l js) text walk walk old old (Ok tt)) (sym end) visited_none

  pub place_short : (each : Json → Json → Visits) (n : ℕ) (ss js : List Json) (s : Json) (rest : List Json) {walk : Trace} {old : List Entry} → ss ≡ s ∷ rest → js ≡ [] → Visited {E = E} (by_place each n ss js) text walk walk old old (Ok tt)
  unfolding by_place
  place_short each n ss js s rest {walk} {old} step end =
      subst (λ l. Visited {E = E} (by_place each n l js) text walk walk old old (Ok tt)) (sym step)
      (subst (λ l. Visited {E = E} (by_place each n (s ∷ rest) l) text walk walk old old (Ok tt)) (sym end) visited_none)

  pub place_then : (each : Json → Json → Visits) (n : ℕ) (ss js : List Json) (s j : Json) (ts ks : List Json) {p : Part} {before mid after : Trace} {old between new : List Entry} {first result : Result Unit E} → ss ≡ s ∷ ts → js ≡ j ∷ ks → p ≡ index_part n → Visited (under p (each s j)) text before mid old between first → IsOk first → Visited (by_place each (n + 1) ts ks) text mid after between new result → Visited (by_place each n ss js) text before after old new result
  unfolding by_place
  place_then each n ss js s j ts ks {before = before} {mid} {after} {old} {between} {new} {first} {result} of_schemas of_items place told is rest =
      subst (λ l. Visited (by_place each n l js) text before after old new result) (sym of_schemas)
      (subst (λ l. Visited (by_place each n (s ∷ ts) l) text before after old new result) (sym of_items)
      (visited_then _ _ (subst (λ z. Visited (under z (each s j)) text before mid old between first) place told) is rest))

  pub place_stop : (each : Json → Json → Visits) (n : ℕ) (ss js : List Json) (s j : Json) (ts ks : List Json) {p : Part} {before after : Trace} {old new : List Entry} {first result : Result Unit E} → ss ≡ s ∷ ts → js ≡ j ∷ ks → p ≡ index_part n → Visited (under p (each s j)) text before after old new first → IsErr first → IsErr result → Visited (by_place each n ss js) text before after old new result
  unfolding by_place
  place_stop each n ss js s j ts ks {before = before} {after} {old} {new} {first} {result} of_schemas of_items place told was is =
      subst (λ l. Visited (by_place each n l js) text before after old new result) (sym of_schemas)
      (subst (λ l. Visited (by_place each n (s ∷ ts) l) text before after old new result) (sym of_items)
      (visited_stop _ _ (subst (λ z. Visited (under z (each s j)) text before after old new first) place told) was is))
