-- What the reader of IPv6 texts does, byte by byte.
use Rattle.std.specs.Prelude.{ℕ, ◌+◌, List, [], ◌∷◌, Bool, true, false, nat_lt, nat_le, ◌==◌, ◌&&◌, Option, Some, None, if◌then◌else◌}
use Rattle.std.specs.Char.{is_ascii_hexdigit}
use Rattle.garde_engines.specs.Ip.{dot, colon}
use Rattle.garde_engines.specs.IpText.{is_ipv4_text}
use Rattle.garde_engines.specs.declared.addresses.v6.Place.{Place}
use Rattle.garde_engines.specs.declared.addresses.v6.Place.TheVariants.{Start, Lead, Colon, Double, Piece}
use Rattle.garde_engines.specs.declared.addresses.v6.Ipv6Reader.{Ipv6Reader}

-- at the start of a text
abbrev pub start_ipv6 : Ipv6Reader
start_ipv6 = record { groups = 0; compressed = false; place = Start }

-- so many groups are an address, with `::` among them or without
abbrev pub is_full : Bool → ℕ → Bool
is_full compressed groups = if compressed then nat_le groups 7 else groups == 8

-- the reader after `::`
abbrev pub read_double : Ipv6Reader → Ipv6Reader
read_double reader = record reader { compressed = true; place = Double }

-- after a `:` at this place
abbrev pub read_colon : Place → Ipv6Reader → Option Ipv6Reader
read_colon Start reader = Some (record reader { place = Lead })
read_colon Lead reader = Some (read_double reader)
read_colon Colon reader = if reader.compressed then None else Some (read_double reader)
read_colon Double reader = None
read_colon (Piece digits) reader = if nat_lt reader.groups 8
    then Some (record reader { groups = reader.groups + 1; place = Colon }) else None

-- after a digit at this place
abbrev pub read_digit : Place → Ipv6Reader → Option Ipv6Reader
read_digit Start reader = Some (record reader { place = Piece 1 })
read_digit Lead reader = None
read_digit Colon reader = Some (record reader { place = Piece 1 })
read_digit Double reader = Some (record reader { place = Piece 1 })
read_digit (Piece digits) reader = if nat_lt digits 4 then Some (record reader { place = Piece (digits + 1) }) else None

-- after a byte that is no `.`
abbrev pub read_ipv6 : Ipv6Reader → ℕ → Option Ipv6Reader
read_ipv6 reader byte = if byte == colon then read_colon reader.place reader
    else (if is_ascii_hexdigit byte then read_digit reader.place reader else None)

-- an address may end at this place, with `::` among these groups or without
abbrev pub ends_at : Place → Bool → ℕ → Bool
ends_at Start compressed groups = false
ends_at Lead compressed groups = false
ends_at Colon compressed groups = false
ends_at Double compressed groups = nat_le groups 7
ends_at (Piece digits) compressed groups = is_full compressed (groups + 1)

-- an address may end here
abbrev pub ends_ipv6 : Ipv6Reader → Bool
ends_ipv6 reader = ends_at reader.place reader.compressed reader.groups

-- where the piece begins that the next byte belongs to
abbrev pub piece_after : ℕ → List ℕ → List ℕ → List ℕ
piece_after byte piece rest = if byte == colon then rest else piece

-- Whether the reader takes each byte of the rest and may end after it. The piece is the text from the last `:` on; at a `.`
-- all of it has to be an IPv4 text.
abbrev pub accepts_ipv6 : Ipv6Reader → List ℕ → List ℕ → Bool
accepts_ipv6 reader piece [] = ends_ipv6 reader
accepts_ipv6 reader piece (byte ∷ rest) =
    if byte == dot then is_full reader.compressed (reader.groups + 2) && is_ipv4_text piece
    else elim (read_ipv6 reader byte) [ None ↦ false | Some next ↦ accepts_ipv6 next (piece_after byte piece rest) rest ]
