-- What a connection was given.
use Rattle.std.specs.Prelude.{◌≡◌, ◌⊎◌, ℕ, List, [], ◌++◌}
use Rattle.http_server.specs.History.{History}
use Rattle.http_server.specs.declared.state.State.{State}
use Rattle.http_server.specs.declared.state.State.TheVariants.{Open}

-- these bytes were received, and nothing else was done
pub record Gets (old new : History) (came : List ℕ) : Type 0 where
  pub received : new.received ≡ old.received ++ came
  pub state : new.state ≡ old.state
  pub calls : new.calls ≡ old.calls
  pub sent : new.sent ≡ old.sent

-- bytes were read and not received only where the connection is open
abbrev pub Loses : State → List ℕ → Type 0
Loses state lost = (lost ≡ []) ⊎ (state ≡ Open)
