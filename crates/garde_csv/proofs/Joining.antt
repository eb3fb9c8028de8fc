-- How the bytes of a record are read, a run at a time: bytes that are no quote, no comma and no end of a line only join the cell.
use Rattle.std.proofs.Common.{◌≡◌, ◌<◌, ◌≤◌, ◌+◌, ℕ, List, [], ◌∷◌, ◌++◌, take, drop, length, get_or, Option, Some, None, refl, sym, ap, subst, ◌∙◌, arith, true, false, Bool, append_assoc, below_more, suc}
use Rattle.std.proofs.lemmas.List.{append-nil, drop_min, drop-take, get_or-take, length-take-le, take-append-drop, take_min}
use Rattle.std.specs.Prelude.{◌||◌, ◌-◌, ◌==◌, min}
use Rattle.csv.specs.Machine.{field_after, fields_after, is_end, next_record, step}
use Rattle.csv.specs.Reading.{default_config}
use Rattle.csv.specs.declared.parser.Action.{Action}
use Rattle.csv.specs.declared.parser.Action.TheVariants as act
use Rattle.csv.specs.declared.parser.State.{State}
use Rattle.csv.specs.declared.parser.State.TheVariants as st
use Rattle.garde_csv.specs.Places.{state_of}
use Rattle.garde_csv.specs.Quotes.{Seen, fault_of, first_of, is_before, joined_fault, joined_state, may_follow, seen_after, seen_in, seen_joined}
use Rattle.garde_csv.specs.Steps.{EndsRecord, Reads, SameRecord}
use Rattle.garde_csv.specs.declared.fault.Fault.{Fault}
use Rattle.garde_csv.specs.declared.place.Place.{Place}
use Rattle.garde_csv.specs.declared.place.Place.TheVariants as place

-- none of four tests holds
none-of : (a b c d : Bool) → (a || b || c || d) ≡ false → (a ≡ false) × (b ≡ false) × (c ≡ false) × (d ≡ false)
none-of false false false false e = (refl, refl, refl, refl)
none-of true b c d e = cc e
none-of false true c d e = cc e
none-of false false true d e = cc e
none-of false false false true e = cc e

-- the states in which such a byte is one of the cell
pub joins : State → Bool
joins st.InComment = false
joins st.StartRecord = true
joins st.AfterCr = true
joins st.StartField = true
joins st.InField = true
joins st.InQuoted = true
joins st.AfterQuote = true
joins st.InEscape = true

pub joins-place : (p : Place) → joins (state_of p) ≡ true
unfolding joins
joins-place place.RecordStart = refl
joins-place place.AfterReturn = refl
joins-place place.CellStart = refl
joins-place place.Plain = refl
joins-place place.Quoted = refl
joins-place place.Closed = refl

joins-again : (s : State) → joins s ≡ true → joins (joined_state s) ≡ true
unfolding joins
joins-again st.InComment h = h
joins-again st.StartRecord h = refl
joins-again st.AfterCr h = refl
joins-again st.StartField h = refl
joins-again st.InField h = refl
joins-again st.InQuoted h = refl
joins-again st.AfterQuote h = refl
joins-again st.InEscape h = refl

-- what one such byte does
plain-step : (s : State) (c : ℕ) → may_follow c ≡ false → joins s ≡ true → step default_config s c ≡ (joined_state s, act.Copy)
unfolding joins
plain-step st.InComment c h j = cc j
plain-step st.StartRecord c h j = let n = none-of (c == 34) (c == 44) (c == 13) (c == 10) h in simp (n.0, n.1, n.2, n.3)
plain-step st.AfterCr c h j = let n = none-of (c == 34) (c == 44) (c == 13) (c == 10) h in simp (n.0, n.1, n.2, n.3)
plain-step st.StartField c h j = let n = none-of (c == 34) (c == 44) (c == 13) (c == 10) h in simp (n.0, n.1, n.2, n.3)
plain-step st.InField c h j = let n = none-of (c == 34) (c == 44) (c == 13) (c == 10) h in simp (n.1, n.2, n.3)
plain-step st.InQuoted c h j = let n = none-of (c == 34) (c == 44) (c == 13) (c == 10) h in simp n.0
plain-step st.AfterQuote c h j = let n = none-of (c == 34) (c == 44) (c == 13) (c == 10) h in simp (n.0, n.1, n.2, n.3)
plain-step st.InEscape c h j = refl

plain-fault : (s : State) (quote line c : ℕ) → may_follow c ≡ false → fault_of s quote line c ≡ joined_fault s quote
plain-fault st.InField quote line c h = let n = none-of (c == 34) (c == 44) (c == 13) (c == 10) h in simp n.0
plain-fault st.AfterQuote quote line c h = rw h refl
plain-fault st.InComment quote line c h = refl
plain-fault st.StartRecord quote line c h = refl
plain-fault st.AfterCr quote line c h = refl
plain-fault st.StartField quote line c h = refl
plain-fault st.InQuoted quote line c h = refl
plain-fault st.InEscape quote line c h = refl

plain-seen : (s : Seen) (c : ℕ) → may_follow c ≡ false → joins s.state ≡ true → seen_after s c ≡ seen_joined s
plain-seen s c h j =
    let n = none-of (c == 34) (c == 44) (c == 13) (c == 10) h in
    simp (plain-step s.state c h j, plain-fault s.state s.quote s.line c h, n.0, n.3)

-- a second such byte changes nothing that is seen
again-state : (s : State) → joined_state (joined_state s) ≡ joined_state s
again-state st.InComment = refl
again-state st.StartRecord = refl
again-state st.AfterCr = refl
again-state st.StartField = refl
again-state st.InField = refl
again-state st.InQuoted = refl
again-state st.AfterQuote = refl
again-state st.InEscape = refl

again-begun : (s : State) → is_before (joined_state s) ≡ false
again-begun st.InComment = refl
again-begun st.StartRecord = refl
again-begun st.AfterCr = refl
again-begun st.StartField = refl
again-begun st.InField = refl
again-begun st.InQuoted = refl
again-begun st.AfterQuote = refl
again-begun st.InEscape = refl

again-fault : (s : State) (quote : ℕ) (f : Option Fault) → first_of f (joined_fault (joined_state s) quote) ≡ f
again-fault st.InComment quote None = refl
again-fault st.StartRecord quote None = refl
again-fault st.AfterCr quote None = refl
again-fault st.StartField quote None = refl
again-fault st.InField quote None = refl
again-fault st.InQuoted quote None = refl
again-fault st.AfterQuote quote None = refl
again-fault st.InEscape quote None = refl
again-fault s quote (Some f) = refl

joined-again : (s : Seen) → seen_joined (seen_joined s) ≡ seen_joined s
joined-again s = simp (again-state s.state, again-begun s.state, again-fault s.state s.quote (first_of s.fault (joined_fault s.state s.quote)))

-- what is seen behind a run of such bytes
joined_by : Seen → List ℕ → Seen
joined_by s [] = s
joined_by s (c ∷ run) = seen_joined s

joined-by-again : (s : Seen) (run : List ℕ) → joined_by (seen_joined s) run ≡ seen_joined s
unfolding joined_by
joined-by-again s [] = refl
joined-by-again s (c ∷ run) = joined-again s

joined-is : (s b : Seen) (run : List ℕ) → (length run ≡ 0 → b ≡ s) → (0 < length run → b ≡ seen_joined s) → b ≡ joined_by s run
unfolding joined_by
joined-is s b [] none some = none refl
joined-is s b (c ∷ run) none some = some (omega arith)

-- one byte that does not end the record, and one that does
byte-goes : (s : Seen) (fields : List (List ℕ)) (field : List ℕ) (c : ℕ) (ys : List ℕ) → is_end (step default_config s.state c).1 ≡ false
    → SameRecord s fields field (c ∷ ys) (seen_after s c) (fields_after (step default_config s.state c).1 fields field) (field_after (step default_config s.state c).1 c field) ys
unfolding next_record seen_in
byte-goes s fields field c ys e = rw e (refl, refl)

byte-ends : (s : Seen) (fields : List (List ℕ)) (field : List ℕ) (c : ℕ) (ys : List ℕ) → is_end (step default_config s.state c).1 ≡ true
    → EndsRecord s fields field (c ∷ ys) (seen_after s c) (fields_after (step default_config s.state c).1 fields field) ys
unfolding next_record seen_in
byte-ends s fields field c ys e = rw e (refl, refl)

-- one byte that only joins the cell
byte-joins : (s : Seen) (fields : List (List ℕ)) (field : List ℕ) (c : ℕ) (ys : List ℕ) → may_follow c ≡ false → joins s.state ≡ true
    → SameRecord s fields field (c ∷ ys) (seen_joined s) fields (field ++ c ∷ []) ys
byte-joins s fields field c ys h j =
    let copy : (step default_config s.state c).1 ≡ act.Copy = ap (λ (q : State × Action). q.1) (plain-step s.state c h j) in
    let goes : is_end (step default_config s.state c).1 ≡ false = rw copy refl in
    subst (λ (b : Seen). SameRecord s fields field (c ∷ ys) b fields (field ++ c ∷ []) ys) (plain-seen s c h j)
    (subst (λ (a : Action). SameRecord s fields field (c ∷ ys) (seen_after s c) (fields_after a fields field) (field_after a c field) ys) copy
    (byte-goes s fields field c ys goes))

-- two steps in turn
same-both : (a b c : Seen) (f g h : List (List ℕ)) (x y z xs ys zs : List ℕ) → SameRecord a f x xs b g y ys → SameRecord b g y ys c h z zs → SameRecord a f x xs c h z zs
same-both a b c f g h x y z xs ys zs p q = (p.0 ∙ q.0, p.1 ∙ q.1)

pub reads-both : (a b c : Seen) (f g h : List (List ℕ)) (x y z xs ys zs : List ℕ) (ended : Bool)
    → Reads a f x xs b g y ys false → Reads b g y ys c h z zs ended → Reads a f x xs c h z zs ended
reads-both a b c f g h x y z xs ys zs true p q = λ rest. ((p rest).0 ∙ (q rest).0, (p rest).1 ∙ (q rest).1)
reads-both a b c f g h x y z xs ys zs false p q = λ rest. ((p rest).0 ∙ (q rest).0, (p rest).1 ∙ (q rest).1)

-- a run of bytes that only join the cell
run-joins : (run : List ℕ) (s : Seen) (fields : List (List ℕ)) (field ys : List ℕ) → joins s.state ≡ true
    → ((k : ℕ) → k < length run → may_follow (get_or run k 0) ≡ false)
    → SameRecord s fields field (run ++ ys) (joined_by s run) fields (field ++ run) ys
unfolding joined_by
run-joins [] s fields field ys j h = rw (append-nil field) (refl, refl)
run-joins (c ∷ run) s fields field ys j h =
    let first = byte-joins s fields field c (run ++ ys) (h 0 (omega arith)) j in
    let more = run-joins run (seen_joined s) fields (field ++ c ∷ []) ys (joins-again s.state j) (λ k lt. h (suc k) (omega arith)) in
    same-both s (seen_joined s) (seen_joined s) fields fields fields field (field ++ c ∷ []) (field ++ c ∷ run) (c ∷ run ++ ys) (run ++ ys) ys first
    (rw (append_assoc field (c ∷ []) run, joined-by-again s run) at more)

-- a run at the front of a text
pub run-reads : (text : List ℕ) (n : ℕ) (s b : Seen) (fields : List (List ℕ)) (field field2 : List ℕ) → joins s.state ≡ true → n ≤ length text
    → ((k : ℕ) → k < n → may_follow (get_or text k 0) ≡ false)
    → (n ≡ 0 → b ≡ s) → (0 < n → b ≡ seen_joined s) → field2 ≡ field ++ take n text
    → Reads s fields field text b fields field2 (drop n text) false
run-reads text n s b fields field field2 j le plain none some e =
    let size = length-take-le n text le in
    let is = joined-is s b (take n text) (rw size none) (rw size some) in
    let each : (k : ℕ) → k < length (take n text) → may_follow (get_or (take n text) k 0) ≡ false =
    λ k lt. (let below : k < n = omega (arith, size) in rw (get_or-take n text k 0 below) (plain k below)) in
    λ rest.
    let whole : text ++ rest ≡ take n text ++ (drop n text ++ rest) = ap (λ (t : List ℕ). t ++ rest) (sym (take-append-drop n text)) ∙ append_assoc (take n text) (drop n text) rest in
    rw (whole, is, e) (run-joins (take n text) s fields field (drop n text ++ rest) j each)

-- one more byte, by its state and its action
pub byte-reads : (b c : Seen) (fields fields2 : List (List ℕ)) (field field2 : List ℕ) (byte : ℕ) (ys : List ℕ) (a : Action) (ended : Bool)
    → a ≡ (step default_config b.state byte).1 → ended ≡ is_end a → c ≡ seen_after b byte
    → fields2 ≡ fields_after a fields field → field2 ≡ field_after a byte field
    → Reads b fields field (byte ∷ ys) c fields2 field2 ys ended
byte-reads b c fields fields2 field field2 byte ys a true action ends seen f g = λ rest.
    let end : is_end (step default_config b.state byte).1 ≡ true = rw (← action) (sym ends) in
    rw (seen, f, action) (byte-ends b fields field byte (ys ++ rest) end)
byte-reads b c fields fields2 field field2 byte ys a false action ends seen f g = λ rest.
    let goes : is_end (step default_config b.state byte).1 ≡ false = rw (← action) (sym ends) in
    rw (seen, f, g, action) (byte-goes b fields field byte (ys ++ rest) goes)

-- what holds of each number below one, and of the next four
pub four-more : (P : ℕ → Type 0) (at : ℕ) → ((k : ℕ) → k < at → P k) → P at → P (at + 1) → P (at + 2) → P (at + 3) → (k : ℕ) → k < at + 4 → P k
four-more P at before a b c d =
    let second : at + 2 ≡ at + 1 + 1 = omega arith in
    let third : at + 3 ≡ at + 1 + 1 + 1 = omega arith in
    let all : (k : ℕ) → k < at + 1 + 1 + 1 + 1 → P k =
    below_more P (at + 1 + 1 + 1) (below_more P (at + 1 + 1) (below_more P (at + 1) (below_more P at before a) b) (subst P second c)) (subst P third d) in
    λ k lt. all k (omega arith)

-- the bytes of a buffer behind a place, as a part of it
pub ready-part : (buf : List ℕ) (at filled : ℕ)
    → take (min filled (length buf) - min at (min filled (length buf))) (drop (min at (min filled (length buf))) buf) ≡ drop at (take filled buf)
ready-part buf at filled =
    let size = length-take-le (min filled (length buf)) buf (omega arith) in
    let sum : min at (min filled (length buf)) + (min filled (length buf) - min at (min filled (length buf))) ≡ min filled (length buf) = omega arith in
    let front = drop-take (min at (min filled (length buf))) (min filled (length buf) - min at (min filled (length buf))) buf in
    let last = drop_min at (take (min filled (length buf)) buf) in
    sym (rw sum at front) ∙ rw size at last ∙ ap (drop at) (take_min filled buf)
