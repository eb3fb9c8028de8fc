-- A value that is no number has a fault.
use Rattle.std.proofs.Common.{Some}
use Rattle.garde.specs.Visits.{Known, found}
use Rattle.garde_schema.specs.Decimals.{no_number}

pub no_number_is_fault : Known (found (Some no_number)) → ⊥
unfolding Known found
no_number_is_fault is = cc
