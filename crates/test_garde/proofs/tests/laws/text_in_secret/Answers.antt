use Rattle.garde.specs.Words.{default_text}
use Rattle.test_garde.proofs.tests.laws.text_in_secret.Goals as goal

pub returns : goal.returns
returns c = c.messages_hide_values.ensures.messages (record {}) c.args.text.now default_text _ c.find.ensures
