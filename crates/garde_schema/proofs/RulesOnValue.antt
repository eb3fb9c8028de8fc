-- Lemmas on rules that are asked of a whole value.
use Rattle.std.proofs.Common.{◌≡◌, ℕ, List, Option, Some, None, Result, Ok, sym, subst}
use Rattle.std.specs.Result.{IsOk}
use Rattle.garde_i18n.specs.Datum.{Datum}
use Rattle.garde_report.specs.Report.{Entry}
use Rattle.garde_report.specs.Trace.{Trace}
use Rattle.garde.specs.Visits.{Visits, Visited, Known, none, ◌and◌}
use Rattle.garde.proofs.Author.{visited_none}
use Rattle.garde_schema.proofs.Lemmas.{read_and}
use Rattle.garde_schema.specs.RulesOnValue.{rules_on_value}
use Rattle.garde_schema.specs.Forms.{forget, Sound}

-- what the form keeps, and what the rules ask, is known of the value
pub sound_rules : {A : Type 0} (a : Visits) (asks : A → Visits) (keeps : A → Type 0) (o : Option A) → Sound a keeps o → Sound (a and rules_on_value asks o) (λ out. keeps out × Known (asks out)) o
unfolding Known ◌and◌
sound_rules a asks keeps (Some v) sound = λ known. (sound known.0, known.1)
sound_rules a asks keeps None sound = λ known. sound known.0

-- the form was read, and then the rules were asked of its value
pub read_and_asked : {text : Datum → List ℕ} {E A : Type 0} (a : Visits) (asks : A → Visits) (o v : Option A) (first : Result (Option A) E) {before mid after : Trace} {old between new : List Entry} {told result : Result Unit E} → v ≡ o → Visited a text before mid old between (forget first) → IsOk first → Visited (rules_on_value asks v) text mid after between new told → result ≡ told → Visited (a and rules_on_value asks o) text before after old new result
read_and_asked {text} a asks o v first {before} {mid} {after} {old} {between} {new} {told} {result} same one is two told_is = subst (λ z. Visited (a and rules_on_value asks z) text before after old new result) same (read_and a (rules_on_value asks v) first one is two told_is)

-- no rule is asked where there is no value
pub not_asked : {text : Datum → List ℕ} {E A : Type 0} (asks : A → Visits) (o : Option A) {walk : Trace} {old : List Entry} → o ≡ None → Visited {E = E} (rules_on_value asks o) text walk walk old old (Ok tt)
not_asked {text} {E} asks o {walk} {old} is = subst (λ z. Visited {E = E} (rules_on_value asks z) text walk walk old old (Ok tt)) (sym is) visited_none
