use Rattle.std.proofs.Common.{◌≡◌, ℕ, List, ◌++◌}
use Rattle.std.specs.Prelude.{IsTrue}
use Rattle.std.specs.Io.KnownBytes.{Appends, Consumes, IsAtEnd}
use Rattle.http_server.specs.Connection.{config_of, history}
use Rattle.http_server.specs.Exchange.{Calls}
use Rattle.garde_service.specs.Heads.{looked}
use Rattle.garde_service.proofs.wire.talk.Given as goal

-- what was read, written and called since the beginning; the end was found only where the reader has nothing more
abbrev pub invariant-loop : goal.invariant-loop
invariant-loop g l =
    let old = history l.fn.connection in
    let new = history l.connection in
    ((more : List ℕ) × Consumes (g.R.Read.remaining l.fn.reader) (g.R.Read.remaining l.reader) more
    × (new.received ≡ old.received ++ more) × (l.seen ≡ looked l.fn.seen more))
    × ((more : List ℕ) × Appends (g.W.Write.contents l.fn.writer) (g.W.Write.contents l.writer) more
    × (new.sent ≡ old.sent ++ more))
    × Calls g.S.Service.answers l.fn.service l.service old.calls new.calls
    × (config_of l.connection ≡ config_of l.fn.connection)
    × ((IsTrue old.ended → IsAtEnd (g.R.Read.remaining l.fn.reader)) → IsTrue new.ended → IsAtEnd (g.R.Read.remaining l.reader))
