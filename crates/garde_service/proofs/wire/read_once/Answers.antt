use Rattle.std.proofs.Common.{[], refl, sym, append-nil}
use Rattle.garde_service.proofs.Talk.{kept, on_err}
use Rattle.garde_service.proofs.wire.read_once.Goals as goal

pub returns-in_err-count-clause-taken : goal.returns-in_err-count-clause-taken
returns-in_err-count-clause-taken g c = (
  [],
  [],
  kept _ _ c.in_err-count.ensures.bytes,
  record { received = sym (append-nil _); state = refl; calls = refl; sent = refl },
  on_err _ _ c.from_residual.ensures.0,
)
