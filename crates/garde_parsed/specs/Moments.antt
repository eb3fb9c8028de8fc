-- The dates, the times of day, both, and the timestamps that texts write.
use Rattle.std.specs.Prelude.{◌≡◌, ℕ, pos, neg_ℤ, List, Bool, true, ◌&&◌, nat_le, Option, ◌<◌, nat_lt, Some, None, ℤ}
use Rattle.std.proofs.lemmas.Bool.{and_parts, leb-true, ltb-true}
use Rattle.jiff.specs.Types.{Date, Time, DateTime, Timestamp}
use Rattle.jiff_core.specs.Calendar.{days_in_month, IsCivilDate}
use Rattle.jiff_fmt.specs.Temporal.{DateParts, date_parts, parse_date, TimeParts, time_parts, parse_time, parse_datetime, parse_timestamp}
use Rattle.jiff_core.specs.Timestamp.{IsTimestampNanos}
use Rattle.garde_parsed.specs.Parts.{where_true, is_between, between, value_of, PartsLaw}

-- whether the calendar has a date of these parts
abbrev pub is_date : DateParts → Bool
is_date p = is_between (neg_ℤ (pos 9999)) (pos 9999) p.year
    && ((nat_le 1 p.month && nat_le p.month 12)
    && (nat_le 1 p.day && nat_le p.day (days_in_month p.year p.month)))

-- then it does
abbrev pub in_calendar : (p : DateParts) → is_date p ≡ true → IsCivilDate p.year p.month p.day
in_calendar p e =
    let all = and_parts _ _ e in
    let rest = and_parts _ _ all.1 in
    let month = and_parts _ _ rest.0 in
    let day = and_parts _ _ rest.1 in (
      between _ _ _ all.0,
      (leb-true _ _ month.0, leb-true _ _ month.1),
      (leb-true _ _ day.0, leb-true _ _ day.1),
    )

-- the date of these parts, which the calendar has
abbrev pub date_in : (p : DateParts) → IsCivilDate p.year p.month p.day → Date
date_in p is = record {
  year = p.year;
  month = p.month;
  day = p.day;
  year_in = is.0;
  month_in = is.1;
  day_in = is.2;
}

-- the date of these parts
abbrev pub date_from : DateParts → Option Date
date_from p = where_true (is_date p) (in_calendar p) (date_in p)

-- the date that a text writes
abbrev pub date_of : List ℕ → Option Date
date_of text = value_of date_from parse_date text

-- the dates are those that `jiff` reads
abbrev pub DateLaw : Type 0
DateLaw = PartsLaw date_from date_parts parse_date

-- the parts of a time of day
abbrev pub IsClock : TimeParts → Type 0
IsClock p = (p.hour < 24) × (p.minute < 60) × (p.second < 60) × (p.subsec < 1_000_000_000)

-- whether a clock shows these parts
abbrev pub is_time : TimeParts → Bool
is_time p = nat_lt p.hour 24 && (nat_lt p.minute 60 && (nat_lt p.second 60 && nat_lt p.subsec 1_000_000_000))

-- then it does
abbrev pub on_clock : (p : TimeParts) → is_time p ≡ true → IsClock p
on_clock p e =
    let hour = and_parts _ _ e in
    let minute = and_parts _ _ hour.1 in
    let second = and_parts _ _ minute.1 in (
      ltb-true _ _ hour.0,
      ltb-true _ _ minute.0,
      ltb-true _ _ second.0,
      ltb-true _ _ second.1,
    )

-- the time of these parts, which a clock shows
abbrev pub time_in : (p : TimeParts) → IsClock p → Time
time_in p is = record {
  hour = p.hour;
  minute = p.minute;
  second = p.second;
  subsec_nanosecond = p.subsec;
  hour_in = is.0;
  minute_in = is.1;
  second_in = is.2;
  subsec_in = is.3;
}

-- the time of these parts
abbrev pub time_from : TimeParts → Option Time
time_from p = where_true (is_time p) (on_clock p) (time_in p)

-- the time of day that a text writes
abbrev pub time_of : List ℕ → Option Time
time_of text = value_of time_from parse_time text

-- the times are those that `jiff` reads
abbrev pub TimeLaw : Type 0
TimeLaw = PartsLaw time_from time_parts parse_time

-- the parts of a date and of its time
abbrev pub datetime_parts : DateTime → DateParts × TimeParts
datetime_parts d = (date_parts d.date, time_parts d.time)

-- a date and a time, where both are there
abbrev pub joined : Option Date → Option Time → Option DateTime
joined (Some d) (Some t) = Some (record { date = d; time = t })
joined (Some d) None = None
joined None t = None

-- the date and the time of these parts
abbrev pub datetime_from : DateParts × TimeParts → Option DateTime
datetime_from p = joined (date_from p.0) (time_from p.1)

-- the date and the time that a text writes
abbrev pub datetime_of : List ℕ → Option DateTime
datetime_of text = value_of datetime_from parse_datetime text

-- these are those that `jiff` reads
abbrev pub DateTimeLaw : Type 0
DateTimeLaw = PartsLaw datetime_from datetime_parts parse_datetime

-- the nanoseconds of a timestamp since 1970
abbrev pub nanos_of : Timestamp → ℤ
nanos_of t = t.nanosecond

-- whether this many nanoseconds are those of a timestamp
abbrev pub is_timestamp : ℤ → Bool
is_timestamp n = is_between (neg_ℤ (pos 377_705_023_201_000_000_000)) (pos 253_402_207_200_999_999_999) n

-- the timestamp of these nanoseconds, which are those of one
abbrev pub timestamp_in : (n : ℤ) → IsTimestampNanos n → Timestamp
timestamp_in n is = record { nanosecond = n; in_range = is }

-- the timestamp of these nanoseconds
abbrev pub timestamp_from : ℤ → Option Timestamp
timestamp_from n = where_true (is_timestamp n) (between _ _ n) (timestamp_in n)

-- the timestamp that a text writes
abbrev pub timestamp_of : List ℕ → Option Timestamp
timestamp_of text = value_of timestamp_from parse_timestamp text

-- the timestamps are those that `jiff` reads
abbrev pub TimestampLaw : Type 0
TimestampLaw = PartsLaw timestamp_from nanos_of parse_timestamp
