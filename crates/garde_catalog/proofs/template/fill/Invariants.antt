use Rattle.std.proofs.Common.{◌≡◌, ◌++◌, length, string_bytes}
use denote.Text.{Utf8}
use denote.Shadow.{shadow}
use Rattle.garde_catalog.specs.Template.{filled, pieces_of, value_at}
use Rattle.garde_catalog.proofs.template.fill.Given as goal

abbrev pub invariant-places : goal.invariant-places
invariant-places l = record {
  text : shadow (Utf8 l.rest);
  whole : string_bytes l.whole ++ filled (value_at l.put) (pieces_of l.rest)
      ≡ filled (value_at l.put) (pieces_of l.text);
}

abbrev pub decreases-places : goal.decreases-places
decreases-places l = length l.rest
