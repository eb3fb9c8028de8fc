-- A lemma on values that are made of parts.
use Rattle.std.proofs.Common.{◌≡◌, Option, Some, None, sym, subst}
use Rattle.std.specs.Prelude.{option_map}
use Rattle.garde.specs.Visits.{Visits}
use Rattle.garde_schema.specs.Forms.{Sound}

-- what is known of the parts is known of the parts of what is made
pub sound_built : {A B : Type 0} (visits : Visits) (keeps : A → Type 0) (builds : A → B) (parts_of : B → A) (o : Option A) → ((p : A) → parts_of (builds p) ≡ p) → Sound visits keeps o → Sound visits (λ out. keeps (parts_of out)) (option_map builds o)
sound_built visits keeps builds parts_of (Some p) kept sound = λ known. subst keeps (sym (kept p)) (sound known)
sound_built visits keeps builds parts_of None kept sound = sound
