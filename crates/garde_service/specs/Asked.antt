-- What a request asks for.
use Rattle.std.specs.Prelude.{◌≡◌, ◌==◌, Bool, true, false, not, ◌||◌, ◌&&◌, nat_le, ℕ, List, [], length, map, take, drop, slice_index, codes, Option, Some, None, if◌then◌else◌}
use Rattle.std.specs.List.{list_any}
use Rattle.std.specs.Str.{bytes_eq}
use Rattle.std.specs.Char.{to_ascii_lowercase}
use Rattle.garde_catalog.specs.Catalogs.{offered_by}
use Rattle.garde_catalog.specs.Lookup.{IsAskedBy}
use Rattle.garde_catalog.specs.declared.catalogs.Catalogs.{Catalogs}
use Rattle.garde_catalog.specs.declared.language.Language.{Language}
use Rattle.http.specs.declared.request.Parts.{Parts}
use Rattle.http_header.specs.FieldValue.{FieldValue}
use Rattle.http_header.specs.HeaderMap.{get, get_all}
use Rattle.http_uri.specs.Uri.{uri_path}
use Rattle.garde_service.specs.declared.asked.TheConstants.{IDENTITY, TYPE_ENDS}
use Rattle.garde_service.specs.declared.rejected.Rejected.{Rejected}
use Rattle.garde_service.specs.declared.rejected.Rejected.TheVariants.{BadRequest, NotFound, NotImplemented}

-- the value ends there, or one of these bytes stands there
abbrev pub ends_at : List ℕ → ℕ → List ℕ → Bool
ends_at value place ends = (length value == place) || list_any (λ byte. byte == slice_index value place) ends

-- the value begins with this word, in small or capital letters, and there it ends or one of these bytes stands
abbrev pub begins_with : List ℕ → List ℕ → List ℕ → Bool
begins_with value word ends =
    nat_le (length word) (length value)
    && (bytes_eq (map to_ascii_lowercase (take (length word) value)) (map to_ascii_lowercase word) && ends_at value (length word) ends)

-- the first field of this name does so
abbrev pub field_begins_with : Option FieldValue → List ℕ → List ℕ → Bool
field_begins_with None word ends = false
field_begins_with (Some value) word ends = begins_with value.bytes word ends

-- the body is said to be of this media type
abbrev pub has_type : Parts → List ℕ → Bool
has_type head media = field_begins_with (get head.headers (codes "content-type")) media TYPE_ENDS.now

-- this names a coding: anything but `identity`, in small or capital letters
abbrev pub is_coding : List ℕ → Bool
is_coding value = not (bytes_eq (map to_ascii_lowercase value) (map to_ascii_lowercase IDENTITY.now))

-- the body has a coding, by any field of that name
abbrev pub has_coding : Parts → Bool
has_coding head = list_any (λ (value : FieldValue). is_coding value.bytes) (get_all head.headers (codes "content-encoding"))

-- an origin is that of this host, by one of the schemes that have pages
abbrev pub is_of : List ℕ → List ℕ → List ℕ → Bool
is_of origin scheme host =
    nat_le (length scheme) (length origin)
    && (bytes_eq (take (length scheme) origin) scheme && bytes_eq (map to_ascii_lowercase (drop (length scheme) origin)) (map to_ascii_lowercase host))

abbrev pub is_origin_of : List ℕ → List ℕ → Bool
is_origin_of origin host = is_of origin (codes "https://") host || is_of origin (codes "http://") host

-- by a field `Origin`: it is there, and not that of the host
abbrev pub is_foreign_origin : Option FieldValue → Option FieldValue → Bool
is_foreign_origin None host = false
is_foreign_origin (Some origin) None = true
is_foreign_origin (Some origin) (Some host) = not (is_origin_of origin.bytes host.bytes)

-- by a field `Sec-Fetch-Site`, or without it by `Origin`
abbrev pub is_foreign_site : Option FieldValue → Bool → Bool
is_foreign_site None by_origin = by_origin
is_foreign_site (Some site) by_origin = not (bytes_eq site.bytes (codes "same-origin") || bytes_eq site.bytes (codes "none"))

-- a page of another site made the request, by the first fields of these names
abbrev pub is_foreign : Parts → Bool
is_foreign head =
    is_foreign_site (get head.headers (codes "sec-fetch-site")) (is_foreign_origin (get head.headers (codes "origin")) (get head.headers (codes "host")))

-- the place of the language that a field asks for, among those that are offered: none where it asks for none, or where there is no field
abbrev pub IsAskedIn : List Language → Option FieldValue → Option ℕ → Type 0
IsAskedIn offered None place = place ≡ None
IsAskedIn offered (Some value) place = IsAskedBy value.bytes offered place

-- the place of the language that the request asks for, by its first field of that name
abbrev pub IsLanguage : Catalogs → Option ℕ → Parts → Type 0
IsLanguage catalogs place head = IsAskedIn (offered_by catalogs) (get head.headers (codes "accept-language")) place

-- the path that a request is for
abbrev pub path_of : Parts → List ℕ
path_of head = uri_path head.uri

-- Why a request is rejected whose path the service does not have. `CONNECT` may name a host and a port, which are no path, and `OPTIONS`
-- may name `*`: neither is implemented. With another method such a target is a bad request.
abbrev pub elsewhere : Parts → Rejected
elsewhere head =
    if bytes_eq (path_of head) [] then (if bytes_eq head.method (codes "CONNECT") then NotImplemented else BadRequest)
    else if bytes_eq (path_of head) (codes "*") then (if bytes_eq head.method (codes "OPTIONS") then NotImplemented else BadRequest)
    else NotFound
