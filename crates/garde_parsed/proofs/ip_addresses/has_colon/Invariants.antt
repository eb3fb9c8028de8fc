use Rattle.std.proofs.Common.{◌≡◌, drop}
use Rattle.garde_parsed.specs.Addresses.{has_colon}
use Rattle.garde_parsed.proofs.ip_addresses.has_colon.Given as goal

abbrev pub invariant-loop-byte : goal.invariant-loop-byte
invariant-loop-byte l = has_colon (drop l.byte-index l.text) ≡ has_colon l.text
