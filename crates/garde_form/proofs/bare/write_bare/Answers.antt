use Rattle.std.proofs.Common.{refl}
use Rattle.json.specs.Word.{after_number}
use Rattle.garde_form.proofs.bare.write_bare.Goals as goal

pub number-requires : goal.number-requires
unfolding after_number
number-requires c = refl
