-- Where a record has begun, there is one record more, wherever the list ends.
use Rattle.std.proofs.Common.{◌≡◌, ℕ, List, [], ◌∷◌, Option, Some, None, refl, sym, ap, ◌∙◌, true, false, Bool}
use Rattle.std.specs.Prelude.{◌||◌, ◌==◌, IsSome, is_some, if◌then◌else◌}
use Rattle.csv.specs.Machine.{ends_at_end, field_after, fields_after, is_end, next_record, step}
use Rattle.csv.specs.Reading.{default_config}
use Rattle.csv.specs.declared.parser.Action.{Action}
use Rattle.csv.specs.declared.parser.Action.TheVariants as act
use Rattle.csv.specs.declared.parser.State.{State}
use Rattle.csv.specs.declared.parser.State.TheVariants as st
use Rattle.garde_csv.specs.Places.{state_of}
use Rattle.garde_csv.specs.declared.place.Place.{Place}
use Rattle.garde_csv.specs.declared.place.Place.TheVariants as place

-- the states of a record that has begun
pub has_begun : State → Bool
has_begun st.StartRecord = false
has_begun st.AfterCr = false
has_begun st.StartField = true
has_begun st.InField = true
has_begun st.InQuoted = true
has_begun st.AfterQuote = true
has_begun st.InEscape = false
has_begun st.InComment = false

pub begun-ends : (s : State) → has_begun s ≡ true → ends_at_end s ≡ true
unfolding has_begun
begun-ends st.StartRecord e = e
begun-ends st.AfterCr e = e
begun-ends st.StartField e = refl
begun-ends st.InField e = refl
begun-ends st.InQuoted e = refl
begun-ends st.AfterQuote e = refl
begun-ends st.InEscape e = refl
begun-ends st.InComment e = refl

pub begun-place : (p : Place) → has_begun (state_of p) ≡ ends_at_end (state_of p)
unfolding has_begun
begun-place place.RecordStart = refl
begun-place place.AfterReturn = refl
begun-place place.CellStart = refl
begun-place place.Plain = refl
begun-place place.Quoted = refl
begun-place place.Closed = refl

-- one byte ends the record, or it goes on
abbrev cell_step : Bool → Bool → State → State × Action
cell_step comma end s = if comma then (st.StartField, act.EndField) else if end then (s, act.EndRecord) else (st.InField, act.Copy)

cell-goes-on : (comma end : Bool) (s : State) → is_end (cell_step comma end s).1 ≡ false → has_begun (cell_step comma end s).0 ≡ true
unfolding has_begun
cell-goes-on true end s e = refl
cell-goes-on false true s e = cc e
cell-goes-on false false s e = refl

quote-goes-on : (quote : Bool) (a : Action) (more : State × Action) → (is_end more.1 ≡ false → has_begun more.0 ≡ true)
    → is_end (if quote then (st.InQuoted, a) else more).1 ≡ false → has_begun (if quote then (st.InQuoted, a) else more).0 ≡ true
unfolding has_begun
quote-goes-on true a more h e = refl
quote-goes-on false a more h e = h e

abbrev text_step : Bool → State × Action
text_step quote = if quote then (st.AfterQuote, act.Skip) else (st.InQuoted, act.Copy)

text-goes-on : (quote : Bool) → has_begun (text_step quote).0 ≡ true
unfolding has_begun
text-goes-on true = refl
text-goes-on false = refl

goes-on : (s : State) (c : ℕ) → has_begun s ≡ true → is_end (step default_config s c).1 ≡ false → has_begun (step default_config s c).0 ≡ true
unfolding has_begun
goes-on st.StartRecord c b e = cc b
goes-on st.AfterCr c b e = cc b
goes-on st.StartField c b e = quote-goes-on (c == 34) act.Skip _ (cell-goes-on (c == 44) ((c == 13) || (c == 10)) _) e
goes-on st.InField c b e = cell-goes-on (c == 44) ((c == 13) || (c == 10)) _ e
goes-on st.InQuoted c b e = text-goes-on (c == 34)
goes-on st.AfterQuote c b e = quote-goes-on (c == 34) act.Copy _ (cell-goes-on (c == 44) ((c == 13) || (c == 10)) _) e
goes-on st.InEscape c b e = cc b
goes-on st.InComment c b e = cc b

next-by : (ends : Bool) (one more : Option (List (List ℕ) × State × List ℕ)) → IsSome one → (ends ≡ false → IsSome more) → IsSome (if ends then one else more)
next-by true one more a b = a
next-by false one more a b = b refl

-- a record that has begun ends
pub begun-is-read : (s : State) (fields : List (List ℕ)) (field xs : List ℕ) → has_begun s ≡ true → IsSome (next_record default_config s fields field xs)
unfolding next_record
begun-is-read s fields field [] b = rw (begun-ends s b) refl
begun-is-read s fields field (c ∷ rest) b =
    next-by (is_end (step default_config s c).1) _ _ refl
    (λ e. begun-is-read (step default_config s c).0 (fields_after (step default_config s c).1 fields field) (field_after (step default_config s c).1 c field) rest (goes-on s c b e))

-- where there is none, none has begun
none-begun : (s : State) (b : Bool) (fields : List (List ℕ)) (field xs : List ℕ) → has_begun s ≡ b → next_record default_config s fields field xs ≡ None → b ≡ false
none-begun s false fields field xs b e = refl
none-begun s true fields field xs b e = sym (begun-is-read s fields field xs b) ∙ ap is_some e

pub not-begun : (p : Place) (fields : List (List ℕ)) (field xs : List ℕ) → next_record default_config (state_of p) fields field xs ≡ None → ends_at_end (state_of p) ≡ false
not-begun p fields field xs e = sym (begun-place p) ∙ none-begun (state_of p) _ fields field xs refl e
