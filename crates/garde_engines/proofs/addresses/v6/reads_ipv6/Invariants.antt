use Rattle.std.proofs.Common.{◌≡◌, ◌≤◌, drop}
use Rattle.garde_engines.specs.Ipv6Reader.{accepts_ipv6, start_ipv6}
use Rattle.garde_engines.proofs.addresses.v6.reads_ipv6.Given as goal

-- what is left is accepted if the text is
abbrev pub invariant-loop-at : goal.invariant-loop-at
invariant-loop-at l = record {
  within : l.piece ≤ l.at;
  left : accepts_ipv6 l.reader (drop l.piece l.text) (drop l.at l.text) ≡ accepts_ipv6 start_ipv6 l.text l.text;
}
