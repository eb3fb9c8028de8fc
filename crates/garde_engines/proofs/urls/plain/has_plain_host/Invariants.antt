use Rattle.std.proofs.Common.{◌≡◌, drop}
use Rattle.garde_engines.specs.PlainUrls.{has_plain_host}
use Rattle.garde_engines.proofs.PlainHostLemmas.{scan}
use Rattle.garde_engines.proofs.urls.plain.has_plain_host.Given as goal

-- the host is plain where what is left of it is
abbrev pub invariant-loop-byte : goal.invariant-loop-byte
invariant-loop-byte l = scan l.first (drop l.byte-index l.bytes) ≡ has_plain_host l.bytes
