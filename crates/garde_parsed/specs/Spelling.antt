-- What JSON spells of the types that texts write. Each word is that of a form.
use Rattle.std.specs.Prelude.{ℕ, List, None, option_and_then}
use Rattle.std.specs.declared.net.ip_addr.IpAddr.{IpAddr}
use Rattle.std.specs.declared.net.ipv4_addr.Ipv4Addr.{Ipv4Addr}
use Rattle.std.specs.declared.net.ipv6_addr.Ipv6Addr.{Ipv6Addr}
use Rattle.json.specs.Find.{as_str}
use Rattle.jiff.specs.Types.{Date, DateTime, Time, Timestamp}
use Rattle.url.specs.Parts.{Parts}
use Rattle.uuid.specs.Text.{parsed as uuid_of}
use Rattle.garde.specs.Visits.{may_allocate, none}
use Rattle.garde_tape.specs.Look.{kind_of}
use Rattle.garde_tape.specs.declared.kind.Kind.TheVariants as kinds
use Rattle.garde_schema.specs.declared.fault.FormFault.TheVariants.{Wrong}
use Rattle.garde_schema.specs.declared.fault.Wanted.TheVariants as wanted
use Rattle.garde_schema.specs.Forms.{formed}
use Rattle.garde_schema.specs.Spelling.{Spelling}
use Rattle.garde_schema.specs.Whole.{number_visits}
use Rattle.garde_form.specs.Parsed.{a_parsed}
use Rattle.garde_form.specs.Texts.{unread}
use Rattle.garde_parsed.specs.Addresses.{ip_of, ip_wanted, ipv4_of, ipv6_of}
use Rattle.garde_parsed.specs.InMemory.{text_visits}
use Rattle.garde_parsed.specs.Layouts.{laid_out}
use Rattle.garde_parsed.specs.Moments.{date_of, datetime_of, time_of, timestamp_of}
use Rattle.garde_parsed.specs.Urls.{url_of}
use Rattle.garde_parsed.specs.declared.layout.Layout.{Layout}

-- a UUID, as its bytes
abbrev pub a_uuid : Spelling (List ℕ)
a_uuid = a_parsed wanted.Uuid (λ text. uuid_of text)

-- an IP address of this version, or of either
abbrev pub an_ipv4 : Spelling Ipv4Addr
an_ipv4 = a_parsed wanted.Ipv4 (λ text. ipv4_of text)

abbrev pub an_ipv6 : Spelling Ipv6Addr
an_ipv6 = a_parsed wanted.Ipv6 (λ text. ipv6_of text)

abbrev pub an_ip : Spelling IpAddr
an_ip = record {
  value = λ j. option_and_then (λ text. ip_of text) (as_str j);
  visits = λ texts j. formed (texts (Wrong wanted.Text (kind_of j)))
      (λ text. number_visits (unread None (texts (Wrong (ip_wanted text) kinds.Text))) (λ _. none) (ip_of text)) (as_str j);
}

-- a date, a time of day, both, and a moment, in texts that are laid out so
abbrev pub a_date : Layout → Spelling Date
a_date layout = a_parsed wanted.Date (λ text. laid_out layout (λ s. date_of s) text)

abbrev pub a_time : Layout → Spelling Time
a_time layout = a_parsed wanted.Time (λ text. laid_out layout (λ s. time_of s) text)

abbrev pub a_date_time : Layout → Spelling DateTime
a_date_time layout = a_parsed wanted.DateTime (λ text. laid_out layout (λ s. datetime_of s) text)

abbrev pub a_timestamp : Layout → Spelling Timestamp
a_timestamp layout = a_parsed wanted.Timestamp (λ text. laid_out layout (λ s. timestamp_of s) text)

-- an absolute URL, of which memory may run out
abbrev pub a_url : Spelling Parts
a_url = record {
  value = λ j. option_and_then (λ text. url_of text) (as_str j);
  visits = λ texts j. may_allocate (text_visits texts
      (λ text. formed (texts (Wrong wanted.Url kinds.Text)) (λ _. none) (url_of text)) j);
}
