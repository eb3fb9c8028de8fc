-- The marks at items that were found before.
use Rattle.std.proofs.Common.{◌≡◌, ℕ, ◌+◌, ◌<◌, List, length, set, sym, ap, subst, arith, ⊎_elim, get_or-set_same, get_or-set_other}
use Rattle.std.proofs.lemmas.Bool.{cases_eq, cases_lt}
use Rattle.std.proofs.lemmas.List.{get_or_past}
use Rattle.json.specs.Token.{Token}
use Rattle.garde_places.specs.declared.find.Mark.{Mark}
use Rattle.garde_places.specs.Marks.{MarkHolds, MarksHold, mark_of, start}
use Rattle.garde_places.specs.Steps.{item_spot}

pub start_holds : (ts : List Token) → MarkHolds ts start
start_holds ts js h = (js, h, λ n. let e : 0 + n ≡ n = omega arith in ap (λ k. item_spot 0 k js) e)

pub each_holds : (ts : List Token) (marks : List Mark) (k : ℕ) → MarksHold ts marks → MarkHolds ts (mark_of marks k)
each_holds ts marks k h =
    ⊎_elim (h k) (λ past. subst (MarkHolds ts) (sym (get_or_past marks k start past)) (start_holds ts)) (cases_lt k (length marks))

pub marks_set : (ts : List Token) (marks : List Mark) (k : ℕ) (m : Mark) → k < length marks → MarksHold ts marks → MarkHolds ts m → MarksHold ts (set marks k m)
marks_set ts marks k m inside h new i less =
    ⊎_elim
    (λ same. subst (λ n. MarkHolds ts (mark_of (set marks k m) n)) (sym same) (subst (MarkHolds ts) (sym (get_or-set_same marks k m start inside)) new))
    (λ other. subst (MarkHolds ts) (sym (get_or-set_other marks k i m start other)) (each_holds ts marks i h))
    (cases_eq i k)
