use Rattle.std.proofs.Common.{rules}
use Rattle.use_library.proofs.order_faults_with.Goals as goal

pub returns : goal.returns
returns c = (c.faults_of_order-status.result, rw c.of-language.ensures at c.faults_of_order-status.ensures, search rules)
