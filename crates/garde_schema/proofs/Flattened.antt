-- Lemmas on the members of one type among those of another one.
use Rattle.std.proofs.Common.{◌≡◌, ℕ, Bool, false, List, [], ◌∷◌, Option, Some, None, Result, Ok, refl, ap, sym, subst, ◌∙◌}
use Rattle.std.proofs.lemmas.List.Elements.{All-nil}
use Rattle.std.specs.List.{All}
use Rattle.std.specs.Prelude.{IfOk, OnOk, option_map}
use Rattle.garde_i18n.specs.Datum.{Datum}
use Rattle.garde_report.specs.Report.{Entry}
use Rattle.garde_report.specs.Trace.{Trace}
use Rattle.json.specs.Json.{Json}
use Rattle.json.specs.Find.{as_object}
use Rattle.garde_tape.specs.Reading.{member_list}
use Rattle.garde.specs.Visits.{Visits, Visited}
use Rattle.garde_schema.specs.Flattened.{others}
use Rattle.garde_schema.specs.Forms.{FormTexts, Sound}
use Rattle.garde_schema.specs.Lists.{all_values}
use Rattle.garde_schema.specs.Maps.{each_entry, entry_value, members_first}
use Rattle.garde_schema.specs.Members.{members_in}
use Rattle.garde_schema.proofs.Lemmas.{members_some, members_none, on_ok_then}
use Rattle.garde_schema.proofs.Maps.{if_ok_same, member_end}

-- where no name is asked for each member is one of the others
pub others_all : (ms : List (List ℕ × Json)) → others (λ name. false) ms ≡ ms
others_all [] = refl
others_all (m ∷ ms) = ap (λ l. m ∷ l) (others_all ms)

-- the members that were looked up are those of the object
object_members : (j : Json) (ms : List (List ℕ × Json)) {seen : Option (List (List ℕ × Json))} → seen ≡ Some ms → seen ≡ option_map member_list (as_object j) → ms ≡ members_in j
object_members j ms some is = members_some (as_object j) ms some is

no_object_members : (j : Json) {seen : Option (List (List ℕ × Json))} → seen ≡ None → seen ≡ option_map member_list (as_object j) → members_in j ≡ []
no_object_members j none is = members_none (as_object j) none is

-- what was read of the members is what is read of the object
pub rest_value : {A E : Type 0} (value : Json → Option A) (names : List ℕ → Bool) (j : Json) (ms : List (List ℕ × Json)) {seen : Option (List (List ℕ × Json))} (r : Result (Option (List (List ℕ × A))) E) → seen ≡ Some ms → seen ≡ option_map member_list (as_object j) → IfOk r (λ out. out ≡ all_values (entry_value value) (members_first (others names ms))) → IfOk r (λ out. out ≡ all_values (entry_value value) (members_first (others names (members_in j))))
rest_value value names j ms r some is told = if_ok_same r told (ap (λ l. all_values (entry_value value) (members_first (others names l))) (object_members j ms some is))

pub rest_sound : {A B E : Type 0} (texts : FormTexts) (each : Json → Visits) (keeps : A → Type 0) (value : Json → Option A) (names : List ℕ → Bool) (j : Json) (ms : List (List ℕ × Json)) {seen : Option (List (List ℕ × Json))} (r : Result B E) → seen ≡ Some ms → seen ≡ option_map member_list (as_object j) → OnOk r (Sound (each_entry texts each (members_first (others names ms))) (λ out. All (λ e. keeps e.1) out) (all_values (entry_value value) (members_first (others names ms)))) → OnOk r (Sound (each_entry texts each (members_first (others names (members_in j)))) (λ out. All (λ e. keeps e.1) out) (all_values (entry_value value) (members_first (others names (members_in j)))))
rest_sound texts each keeps value names j ms r some is told = on_ok_then r told (λ sound. subst (λ l. Sound (each_entry texts each (members_first (others names l))) (λ out. All (λ e. keeps e.1) out) (all_values (entry_value value) (members_first (others names l)))) (object_members j ms some is) sound)

-- nothing is read of what is no object
pub no_rest_value : {A : Type 0} (value : Json → Option A) (names : List ℕ → Bool) (j : Json) {seen : Option (List (List ℕ × Json))} (none_read : List (List ℕ × A)) → seen ≡ None → seen ≡ option_map member_list (as_object j) → none_read ≡ [] → Some none_read ≡ all_values (entry_value value) (members_first (others names (members_in j)))
no_rest_value value names j none_read none is empty = ap (λ xs. Some xs) empty ∙ sym (ap (λ l. all_values (entry_value value) (members_first (others names l))) (no_object_members j none is))

pub no_rest_sound : {A : Type 0} (texts : FormTexts) (each : Json → Visits) (keeps : A → Type 0) (value : Json → Option A) (names : List ℕ → Bool) (j : Json) {seen : Option (List (List ℕ × Json))} → seen ≡ None → seen ≡ option_map member_list (as_object j) → Sound (each_entry texts each (members_first (others names (members_in j)))) (λ out. All (λ e. keeps e.1) out) (all_values (entry_value value) (members_first (others names (members_in j))))
no_rest_sound texts each keeps value names j none is = subst (λ l. Sound (each_entry texts each (members_first (others names l))) (λ out. All (λ e. keeps e.1) out) (all_values (entry_value value) (members_first (others names l)))) (sym (no_object_members j none is)) (λ known. All-nil (λ e. keeps e.1))

module _ {text : Datum → List ℕ} {E : Type 0} where
  pub rest_of : (texts : FormTexts) (each : Json → Visits) (names : List ℕ → Bool) (j : Json) (ms : List (List ℕ × Json)) {seen : Option (List (List ℕ × Json))} {before after : Trace} {old new : List Entry} {result : Result Unit E} → seen ≡ Some ms → seen ≡ option_map member_list (as_object j) → Visited (each_entry texts each (members_first (others names ms))) text before after old new result → Visited (each_entry texts each (members_first (others names (members_in j)))) text before after old new result
  rest_of texts each names j ms {before = before} {after = after} {old = old} {new = new} {result = result} some is told = subst (λ l. Visited (each_entry texts each (members_first (others names l))) text before after old new result) (object_members j ms some is) told

  pub no_rest : (texts : FormTexts) (each : Json → Visits) (names : List ℕ → Bool) (j : Json) {seen : Option (List (List ℕ × Json))} {walk : Trace} {old : List Entry} → seen ≡ None → seen ≡ option_map member_list (as_object j) → Visited {E = E} (each_entry texts each (members_first (others names (members_in j)))) text walk walk old old (Ok tt)
  no_rest texts each names j {walk = walk} {old = old} none is = member_end texts each (members_first (others names (members_in j))) (ap (λ l. members_first (others names l)) (no_object_members j none is))
