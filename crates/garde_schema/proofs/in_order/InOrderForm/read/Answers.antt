use Rattle.garde_schema.proofs.Lemmas.{on_ok}
use Rattle.garde_schema.proofs.Lists.{sound_no_list}
use Rattle.garde_schema.specs.Lists.{list_of}
use Rattle.garde_schema.proofs.in_order.InOrderForm.read.Goals as goal

pub returns-in-None-clause-sound : goal.returns-in-None-clause-sound
returns-in-None-clause-sound g c = on_ok _ (sound_no_list _ _ _ (λ _. g.M.Members.value c.args.self.now.1 c.args.tree.now) (list_of c.args.tree.now) c.in-None.is c.items.ensures.value)
