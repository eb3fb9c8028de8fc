use Rattle.std.proofs.Common.{◌≡◌, take, take_all}
use Rattle.std.proofs.lemmas.Bool.{false≢true}
use Rattle.garde_catalog.proofs.Made.{all_told, its_good, listed, next}
use Rattle.garde_catalog.proofs.judge.faults_of.Goals as goal

pub loop-message-preserved : goal.loop-message-preserved
loop-message-preserved c = record {
  told = next c.args.entries.now c.args.others.now c.messages-listed.result.now c.loop-message.message-index _ c.loop-message.faults.items c.add.new.faults.items c.loop-message-test.true
      c.in_ok-add.ensures.kept c.in_ok-add.ensures.told c.loop-message.invariant.told;
  faults = c.in_ok-add.ensures.faults (listed c.messages-listed.result.now c.loop-message.message-index _ c.messages-listed.ensures c.loop-message-test.true) c.loop-message.invariant.faults;
}

pub returns-clause-told : goal.returns-clause-told
returns-clause-told c =
    let all : take c.loop-message.message-index c.messages-listed.result.now ≡ c.messages-listed.result.now = take_all _ _ c.loop-message-test.false in
    all_told c.args.entries.now c.args.others.now c.loop-message.faults.items c.messages-listed.result.now c.messages-listed.ensures (rw all at c.loop-message.invariant.told)

pub returns-in_err-add-clause-good : goal.returns-in_err-add-clause-good
returns-in_err-add-clause-good c = λ good.
    let is_listed = listed c.messages-listed.result.now c.loop-message.message-index _ c.messages-listed.ensures c.loop-message-test.true in
    absurd (false≢true (c.in_err-add.ensures.good (its_good c.args.entries.now c.args.others.now _ is_listed good)))
