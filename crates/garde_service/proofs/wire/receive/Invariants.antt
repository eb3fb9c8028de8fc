use Rattle.std.proofs.Common.{◌≡◌, ℕ, List, [], ◌++◌, length}
use Rattle.std.specs.Prelude.{IsTrue}
use Rattle.http_server.specs.Connection.{config_of, history}
use Rattle.garde_service.specs.Received.{Gets}
use Rattle.garde_service.proofs.wire.receive.Given as goal

-- what came so far, and then what is left, are the bytes
abbrev pub invariant-loop-rest : goal.invariant-loop-rest
invariant-loop-rest l =
    ((came : List ℕ) × (l.fn.bytes ≡ came ++ l.rest) × Gets (history l.fn.connection) (history l.connection) came)
    × (IsTrue (history l.connection).ended → l.fn.bytes ≡ [])
    × (config_of l.connection ≡ config_of l.fn.connection)

abbrev pub decreases-loop-rest : goal.decreases-loop-rest
decreases-loop-rest l = length l.rest
