-- The laws of dates, times of day, both, and timestamps.
use Rattle.std.proofs.Common.{◌≡◌, true, Some, refl, sym, ap, arith, Option, None, ◌∙◌, ℤ}
use Rattle.std.proofs.lemmas.Bool.Decides.{nat_tests}
use Rattle.std.proofs.lemmas.Option.{none-some}
use Rattle.std.proofs.Props.{props}
use mathlib.Core.HLevel.{is_prop→PathP}
use Rattle.jiff.specs.Types.{Date, Time, DateTime, Timestamp}
use Rattle.jiff.proofs.Family.{same_date, epoch_day_same, same_time}
use Rattle.jiff_core.proofs.SignedLemmas.{signed_arith}
use Rattle.jiff_fmt.specs.Temporal.{DateParts, date_parts, parse_date, TimeParts, time_parts, parse_time, parse_datetime, parse_timestamp}
use Rattle.jiff_core.specs.Timestamp.{IsTimestampNanos}
use Rattle.garde_parsed.specs.Moments.{is_date, in_calendar, date_in, date_from, DateLaw, is_time, on_clock, time_in, time_from, TimeLaw, datetime_parts, joined, datetime_from, DateTimeLaw, nanos_of, is_timestamp, timestamp_in, timestamp_from, TimestampLaw}
use Rattle.garde_parsed.specs.Parts.{between}
use Rattle.garde_parsed.proofs.Parts.{made, made_of, parts_law}
use Rattle.garde_parsed.proofs.Options.{in_some}

date_parts_are : (d : Date) → is_date (date_parts d) ≡ true
date_parts_are d = grind (arith, signed_arith, nat_tests, d.year_in, d.month_in, d.day_in)

pub date_back : (d : Date) → date_from (date_parts d) ≡ Some d
date_back d =
    let p = date_parts d in
    made (is_date p) (in_calendar p) (date_in p) d (date_parts_are d) (λ is. same_date (date_in p is) d (epoch_day_same (date_in p is) d refl refl refl))

date_these : (p : DateParts) (d : Date) → date_from p ≡ Some d → date_parts d ≡ p
date_these p d is = sym (ap date_parts (made_of (is_date p) (in_calendar p) (date_in p) d is).1)

pub date_law : DateLaw
date_law = parts_law date_from date_parts parse_date date_back date_these

time_parts_are : (t : Time) → is_time (time_parts t) ≡ true
time_parts_are t = grind (arith, nat_tests, t.hour_in, t.minute_in, t.second_in, t.subsec_in)

pub time_back : (t : Time) → time_from (time_parts t) ≡ Some t
time_back t =
    let p = time_parts t in
    made (is_time p) (on_clock p) (time_in p) t (time_parts_are t) (λ is. same_time (time_in p is) t refl)

time_these : (p : TimeParts) (t : Time) → time_from p ≡ Some t → time_parts t ≡ p
time_these p t is = sym (ap time_parts (made_of (is_time p) (on_clock p) (time_in p) t is).1)

pub time_law : TimeLaw
time_law = parts_law time_from time_parts parse_time time_back time_these

pub datetime_back : (d : DateTime) → datetime_from (datetime_parts d) ≡ Some d
datetime_back d = rw (date_back d.date, time_back d.time)

-- the two that were joined
both : (p : DateParts) (q : TimeParts) (d : DateTime) (x : Option Date) (y : Option Time) → date_from p ≡ x → time_from q ≡ y → joined x y ≡ Some d → datetime_parts d ≡ (p, q)
both p q d (Some a) (Some b) first second is =
    let same = in_some is in
    let one = date_these p d.date (first ∙ ap (λ w. Some w.date) same) in
    let two = time_these q d.time (second ∙ ap (λ w. Some w.time) same) in
    λ i. (one i, two i)
both p q d (Some a) None first second is = absurd (none-some d is)
both p q d None y first second is = absurd (none-some d is)

datetime_these : (p : DateParts × TimeParts) (d : DateTime) → datetime_from p ≡ Some d → datetime_parts d ≡ p
datetime_these p d is = both p.0 p.1 d (date_from p.0) (time_from p.1) refl refl is

pub datetime_law : DateTimeLaw
datetime_law = parts_law datetime_from datetime_parts parse_datetime datetime_back datetime_these

timestamp_parts_are : (t : Timestamp) → is_timestamp t.nanosecond ≡ true
timestamp_parts_are t = grind (arith, signed_arith, nat_tests, t.in_range)

-- of one number there is one timestamp
same_timestamp : (t : Timestamp) (is : IsTimestampNanos t.nanosecond) → timestamp_in t.nanosecond is ≡ t
same_timestamp t is = λ i. record {
  nanosecond = t.nanosecond;
  in_range = is_prop→PathP (λ _. IsTimestampNanos t.nanosecond) (λ _. hlevel props) is t.in_range i;
}

pub timestamp_back : (t : Timestamp) → timestamp_from (nanos_of t) ≡ Some t
timestamp_back t = made (is_timestamp t.nanosecond) (between _ _ t.nanosecond) (timestamp_in t.nanosecond) t (timestamp_parts_are t) (same_timestamp t)

timestamp_these : (n : ℤ) (t : Timestamp) → timestamp_from n ≡ Some t → nanos_of t ≡ n
timestamp_these n t is = sym (ap nanos_of (made_of (is_timestamp n) (between _ _ n) (timestamp_in n) t is).1)

pub timestamp_law : TimestampLaw
timestamp_law = parts_law timestamp_from nanos_of parse_timestamp timestamp_back timestamp_these
