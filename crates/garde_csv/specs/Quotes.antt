-- What is wrong with the quotes of a record, and the line where it begins. The states are those of the toolchain's `csv`.
use Rattle.std.specs.Prelude.{◌+◌, ◌-◌, ◌^◌, ◌==◌, ◌||◌, ◌&&◌, if◌then◌else◌, not, min, ℕ, List, [], ◌∷◌, Bool, true, false, Option, Some, None}
use Rattle.csv.specs.Machine.{ends_at_end, is_end, step}
use Rattle.csv.specs.Reading.{default_config}
use Rattle.csv.specs.declared.parser.State.{State}
use Rattle.csv.specs.declared.parser.State.TheVariants as st
use Rattle.garde_csv.specs.Places.{state_of}
use Rattle.garde_csv.specs.declared.fault.Fault.{Fault}
use Rattle.garde_csv.specs.declared.fault.Fault.TheVariants as fault
use Rattle.garde_csv.specs.declared.walk.Walk.{Walk}

-- how far a record was read: the state of `csv`, the line of the next byte, that of the beginning of the record, that of the
-- last quote in front of a cell, and the first fault
pub record Seen : Type 0 where
  pub state : State
  pub line : ℕ
  pub start : ℕ
  pub quote : ℕ
  pub fault : Option Fault

-- the same of what the code keeps
abbrev pub seen_of : Walk → Seen
seen_of w = record { state = state_of w.place; line = w.line; start = w.start; quote = w.quote; fault = w.fault }

-- where no record has begun
abbrev pub unbegun : State → ℕ → Seen
unbegun state line = record { state = state; line = line; start = line; quote = line; fault = None }

-- whether no record has begun
abbrev pub is_before : State → Bool
is_before state = not (ends_at_end state)

-- whether a cell begins here
abbrev pub begins_cell : State → Bool
begins_cell st.StartRecord = true
begins_cell st.AfterCr = true
begins_cell st.StartField = true
begins_cell st.InField = false
begins_cell st.InQuoted = false
begins_cell st.AfterQuote = false
begins_cell st.InEscape = false
begins_cell st.InComment = false

-- whether a closing quote may stand in front of this byte: a second quote, a comma, or the end of a line
abbrev pub may_follow : ℕ → Bool
may_follow c = (c == 34) || (c == 44) || (c == 13) || (c == 10)

-- the fault that a byte makes here: text behind a closing quote, or a quote in a cell without quotes
abbrev pub fault_of : State → ℕ → ℕ → ℕ → Option Fault
fault_of st.AfterQuote quote line c = if may_follow c then None else Some (fault.TextBehindQuote quote)
fault_of st.InField quote line c = if c == 34 then Some (fault.QuoteInside line) else None
fault_of st.StartRecord quote line c = None
fault_of st.AfterCr quote line c = None
fault_of st.StartField quote line c = None
fault_of st.InQuoted quote line c = None
fault_of st.InEscape quote line c = None
fault_of st.InComment quote line c = None

-- the fault of a list that ends here: a quote that is not closed
abbrev pub end_fault : State → ℕ → Option Fault
end_fault st.InQuoted quote = Some (fault.OpenQuote quote)
end_fault st.StartRecord quote = None
end_fault st.AfterCr quote = None
end_fault st.StartField quote = None
end_fault st.InField quote = None
end_fault st.AfterQuote quote = None
end_fault st.InEscape quote = None
end_fault st.InComment quote = None

-- the first of two faults
abbrev pub first_of : Option Fault → Option Fault → Option Fault
first_of None later = later
first_of (Some first) later = Some first

-- the line behind a byte. Lines are counted up to the last number of the type
abbrev pub line_after : ℕ → ℕ → ℕ
line_after line c = if c == 10 then min (line + 1) (2 ^ 64 - 1) else line

-- what was seen behind one more byte
abbrev pub seen_after : Seen → ℕ → Seen
seen_after s c = record {
  state = (step default_config s.state c).0;
  line = line_after s.line c;
  start = if is_before s.state then s.line else s.start;
  quote = if (c == 34) && begins_cell s.state then s.line else s.quote;
  fault = first_of s.fault (fault_of s.state s.quote s.line c);
}

-- the state behind a byte that is no quote, no comma and no end of a line
abbrev pub joined_state : State → State
joined_state st.StartRecord = st.InField
joined_state st.AfterCr = st.InField
joined_state st.StartField = st.InField
joined_state st.InField = st.InField
joined_state st.AfterQuote = st.InField
joined_state st.InQuoted = st.InQuoted
joined_state st.InEscape = st.InQuoted
joined_state st.InComment = st.InComment

-- the fault that such a byte makes here: text behind a closing quote
abbrev pub joined_fault : State → ℕ → Option Fault
joined_fault st.AfterQuote quote = Some (fault.TextBehindQuote quote)
joined_fault st.StartRecord quote = None
joined_fault st.AfterCr quote = None
joined_fault st.StartField quote = None
joined_fault st.InField quote = None
joined_fault st.InQuoted quote = None
joined_fault st.InEscape quote = None
joined_fault st.InComment quote = None

-- what was seen behind one such byte, and behind more of them
abbrev pub seen_joined : Seen → Seen
seen_joined s = record s {
  state = joined_state s.state;
  start = if is_before s.state then s.line else s.start;
  fault = first_of s.fault (joined_fault s.state s.quote);
}

-- what was seen behind the end of the list
abbrev pub seen_at_end : Seen → Seen
seen_at_end s = record s { state = st.StartRecord; fault = first_of s.fault (end_fault s.state s.quote) }

-- what is seen of the next record of a text, behind its last byte or at the end of the text
unfoldable pub seen_in : Seen → List ℕ → Seen
seen_in s [] = seen_at_end s
seen_in s (c ∷ rest) = if is_end (step default_config s.state c).1 then seen_after s c else seen_in (seen_after s c) rest
