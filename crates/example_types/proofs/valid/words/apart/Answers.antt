use Rattle.garde.proofs.Author.{apart_of, unique_of}
use Rattle.example_types.proofs.valid.words.apart.Goals as goal

pub returns : goal.returns
returns g c = record { unique = λ same. (apart_of same _ _, unique_of same _ _) }
