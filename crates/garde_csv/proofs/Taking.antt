-- How the reading of a record follows the bytes of its list.
use Rattle.std.proofs.Common.{◌≡◌, ℕ, List, [], ◌∷◌, ◌++◌, Option, Some, None, refl, ap, ◌∙◌, true, false}
use Rattle.std.specs.Prelude.{IfOk, MatchOption, Result, Ok, Err}
use Rattle.std.specs.Io.KnownBytes.{IsAtEnd, Keeps}
use Rattle.csv.proofs.ReadFacts.{Tracks}
use Rattle.csv.specs.Machine.{Read, ends_at_end, next_record}
use Rattle.csv.specs.Reading.{default_config}
use Rattle.garde_csv.proofs.Begun.{not-begun}
use Rattle.garde_csv.proofs.Feeding.{SeesOn}
use Rattle.garde_csv.specs.Lists.{Gives, GivesNext, IsAnswer, TakesAt, TakesNext, list_state, next_line}
use Rattle.garde_csv.specs.Places.{state_of}
use Rattle.garde_csv.specs.Quotes.{Seen, seen_at_end, seen_in, seen_of, unbegun}
use Rattle.garde_csv.specs.declared.list_error.ListError.{ListError}
use Rattle.garde_csv.specs.declared.place.Place.{Place}
use Rattle.garde_csv.specs.declared.records.Next.{Next}
use Rattle.garde_csv.specs.declared.records.Next.TheVariants as next
use Rattle.garde_csv.specs.declared.records.Records.{Records}
use Rattle.garde_csv.specs.declared.walk.Walk.{Walk}

-- the reading of the record that was begun at p, where q is left: what `csv` reads from here on, and what is seen from here on
abbrev pub Follows : Seen → Option (List ℕ) → Seen → List (List ℕ) → List ℕ → Option (List ℕ) → Type 0
Follows a p b fields field q = Tracks default_config a.state p b.state fields field q × SeesOn a p b q

-- the end of the list, which ends a record
pub follows-last : (a b : Seen) (w : Walk) (fields fields2 : List (List ℕ)) (field : List ℕ) (p q k : Option (List ℕ))
    → Follows a p b fields field q → Keeps q k → IsAtEnd k → ends_at_end b.state ≡ true
    → seen_of w ≡ seen_at_end b → fields2 ≡ fields ++ field ∷ [] → TakesNext a p k fields2 (Some w)
unfolding next_record seen_in
follows-last a b w fields fields2 field None q k t h n e s f = tt
follows-last a b w fields fields2 field (Some xs) None k t h n e s f = absurd t.0
follows-last a b w fields fields2 field (Some xs) (Some ys) None t h n e s f = h
follows-last a b w fields fields2 field (Some xs) (Some ys) (Some zs) t h n e s f =
    rw (t.0, t.1, ← h, n, e) (refl, ap (λ (x : Seen). x.state) s, s, f)

-- the end of the list, where no record has begun
pub follows-none : (a b : Seen) (fields fields2 : List (List ℕ)) (field : List ℕ) (p q k : Option (List ℕ))
    → Follows a p b fields field q → Keeps q k → IsAtEnd k → ends_at_end b.state ≡ false → TakesNext a p k fields2 None
unfolding next_record
follows-none a b fields fields2 field None q k t h n e = tt
follows-none a b fields fields2 field (Some xs) None k t h n e = absurd t.0
follows-none a b fields fields2 field (Some xs) (Some ys) None t h n e = h
follows-none a b fields fields2 field (Some xs) (Some ys) (Some zs) t h n e = rw (t.0, ← h, n, e) (refl, refl)

-- the end of the list
pub follows-finish : (a b : Seen) (fields fields2 : List (List ℕ)) (field : List ℕ) (p q k : Option (List ℕ)) (r : Result (Option Walk) ListError)
    → Follows a p b fields field q → Keeps q k → IsAtEnd k
    → IfOk r (λ found. MatchOption found (ends_at_end b.state ≡ false)
    (λ end. (ends_at_end b.state ≡ true) × (seen_of end ≡ seen_at_end b) × (fields2 ≡ fields ++ field ∷ [])))
    → IfOk r (λ found. TakesNext a p k fields2 found)
follows-finish a b fields fields2 field p q k (Err e) t h n f = tt
follows-finish a b fields fields2 field p q k (Ok None) t h n f = follows-none a b fields fields2 field p q k t h n f
follows-finish a b fields fields2 field p q k (Ok (Some w)) t h n f = follows-last a b w fields fields2 field p q k t h n f.0 f.1 f.2

-- what was taken of a list is what it gives
gives-at : {R : Type 0} (o : Option Read) (seen : Seen) (list : Records R) (walk : Walk) (rest : List ℕ) (fields cells : List (List ℕ)) (answer : Next)
    → TakesAt o seen rest fields (Some walk) → IsAnswer walk.fault fields cells answer
    → list.place ≡ walk.place → list.line ≡ walk.line → list.start ≡ walk.start → Gives o seen list rest cells answer
gives-at None seen list walk rest fields cells answer t h place line start = cc t.0
gives-at (Some p) seen list walk rest fields cells answer t h place line start = (
  t.0,
  ap state_of place ∙ t.1,
  line ∙ ap (λ (x : Seen). x.line) t.2,
  start ∙ ap (λ (x : Seen). x.start) t.2,
  answers t.2 t.3,
)
  where
    answers : seen_of walk ≡ seen → fields ≡ p.0 → IsAnswer seen.fault p.0 cells answer
    answers s f = rw (← s, ← f) h

pub gives-next : {R : Type 0} (old list : Records R) (walk : Walk) (p k : Option (List ℕ)) (fields cells : List (List ℕ)) (answer : Next)
    → TakesNext (unbegun (list_state old) (next_line old)) p k fields (Some walk) → IsAnswer walk.fault fields cells answer
    → list.place ≡ walk.place → list.line ≡ walk.line → list.start ≡ walk.start → GivesNext p k old list cells answer
gives-next old list walk None k fields cells answer t h place line start = tt
gives-next old list walk (Some xs) None fields cells answer t h place line start = absurd t
gives-next old list walk (Some xs) (Some ys) fields cells answer t h place line start =
    gives-at _ _ list walk ys fields cells answer t h place line start

-- the end of the list, where it stays in its place
gives-end : {R : Type 0} (o : Option Read) (seen : Seen) (list : Records R) (rest : List ℕ) (fields cells : List (List ℕ))
    → TakesAt o seen rest fields None → cells ≡ [] → (o ≡ None → ends_at_end (list_state list) ≡ false) → Gives o seen list rest cells next.End
gives-end None seen list rest fields cells t none before = (refl, none, t.1, before refl)
gives-end (Some p) seen list rest fields cells t none before = absurd t

pub gives-none : {R : Type 0} (old list : Records R) (p k : Option (List ℕ)) (fields cells : List (List ℕ))
    → TakesNext (unbegun (list_state old) (next_line old)) p k fields None → cells ≡ [] → list.place ≡ old.place → GivesNext p k old list cells next.End
gives-none old list None k fields cells t none place = tt
gives-none old list (Some xs) None fields cells t none place = absurd t
gives-none old list (Some xs) (Some ys) fields cells t none place =
    gives-end _ _ list ys fields cells t none (λ e. ap (λ (p : Place). ends_at_end (state_of p)) place ∙ not-begun old.place [] [] xs e)
