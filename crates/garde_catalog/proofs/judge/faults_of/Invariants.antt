use Rattle.std.proofs.Common.{All, take}
use Rattle.garde_catalog.specs.Catalog.{IsFault, IsTold}
use Rattle.garde_catalog.specs.Messages.{message_of}
use Rattle.garde_catalog.proofs.judge.faults_of.Given as goal

abbrev pub invariant-loop-message : goal.invariant-loop-message
invariant-loop-message l = record {
  told : All (λ m. IsTold l.entries l.others l.faults.items (message_of m)) (take l.message-index l.listed);
  faults : All (IsFault l.entries l.others) l.faults.items;
}
