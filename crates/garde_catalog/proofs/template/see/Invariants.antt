use Rattle.std.proofs.Common.{length}
use denote.Text.{Utf8}
use denote.Shadow.{shadow}
use Rattle.garde_catalog.specs.Template.{HasPlaces, IsSeen}
use Rattle.garde_catalog.proofs.template.see.Given as goal

abbrev pub invariant-places : goal.invariant-places
invariant-places l = record {
  text : shadow (Utf8 l.rest);
  there : HasPlaces l.rest → HasPlaces l.text;
  back : HasPlaces l.text → HasPlaces l.rest;
  seen : IsSeen l.first l.second l.text l.rest l.seen;
}

abbrev pub decreases-places : goal.decreases-places
decreases-places l = length l.rest
