-- The columns of a table, one after the other.
use Rattle.std.proofs.Common.{ℕ, ◌+◌, ◌<◌, ◌≤◌, List, length, drop, Result, Ok, IsOk, IsErr, sym, subst}
use Rattle.std.proofs.lemmas.List.{at_drop_more, drop_all}
use Rattle.std.specs.Prelude.{slice_index_or}
use Rattle.std.specs.Borrow.{Bor}
use Rattle.json.specs.Json.{Json}
use Rattle.garde_i18n.specs.Datum.{Datum}
use Rattle.garde_report.specs.Part.{key_part}
use Rattle.garde_report.specs.Report.{Entry}
use Rattle.garde_report.specs.Trace.{Trace}
use Rattle.garde_tape.specs.Look.{find_answer}
use Rattle.garde.specs.Visits.{Visits, Visited, none, under}
use Rattle.garde.proofs.Author.{visited_none, visited_then, visited_stop}
use Rattle.garde_schema.specs.Forms.{FormTexts}
use Rattle.garde_schema.specs.Members.{member_visits}
use Rattle.garde_rows.specs.Rows.{each_known}

-- what is asked of a column
abbrev pub known : List ℕ → FormTexts → Json → Visits
known name texts header = under (key_part name) (member_visits texts (λ _. none) (find_answer name header))

module _ {text : Datum → List ℕ} {E : Type 0} where
  -- none is left
  pub known_end : (texts : FormTexts) (header : Json) (names : List (Bor (List ℕ))) (i : ℕ) {walk : Trace} {old : List Entry} → length names ≤ i → Visited {E = E} (each_known (drop i names) texts header) text walk walk old old (Ok tt)
  unfolding each_known
  known_end texts header names i {walk} {old} past = subst (λ z. Visited {E = E} (each_known z texts header) text walk walk old old (Ok tt)) (sym (drop_all i names past)) visited_none

  -- this one is the next
  pub known_then : (texts : FormTexts) (header : Json) (names : List (Bor (List ℕ))) (i : ℕ) (d : Bor (List ℕ)) {before mid after : Trace} {old between new : List Entry} {first result : Result Unit E} → i < length names → Visited (known (slice_index_or names i d).now texts header) text before mid old between first → IsOk first → Visited (each_known (drop (i + 1) names) texts header) text mid after between new result → Visited (each_known (drop i names) texts header) text before after old new result
  unfolding each_known
  known_then texts header names i d {before} {after = after} {old} {new = new} {result = result} within told done rest = subst (λ z. Visited (each_known z texts header) text before after old new result) (sym (at_drop_more (λ l. l) names i d within)) (visited_then _ _ told done rest)

  pub known_stop : (texts : FormTexts) (header : Json) (names : List (Bor (List ℕ))) (i : ℕ) (d : Bor (List ℕ)) {before after : Trace} {old new : List Entry} {first result : Result Unit E} → i < length names → Visited (known (slice_index_or names i d).now texts header) text before after old new first → IsErr first → IsErr result → Visited (each_known (drop i names) texts header) text before after old new result
  unfolding each_known
  known_stop texts header names i d {before} {after} {old} {new} {result = result} within told was stops = subst (λ z. Visited (each_known z texts header) text before after old new result) (sym (at_drop_more (λ l. l) names i d within)) (visited_stop _ _ told was stops)
