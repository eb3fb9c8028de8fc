use Rattle.std.proofs.Common.{◌≡◌, List, [], ◌∷◌, map, refl, ap, ◌∙◌}
use Rattle.garde_report.specs.Part.{Part}
use Rattle.garde_report.specs.Report.{Entry}
use Rattle.garde.specs.Reading.{entry_under}
use Rattle.garde.specs.Select.{messages}
use Rattle.test_garde.proofs.tests.laws.messages_stay.Goals as goal

-- a prefix changes no message
entry_under_messages : (p : List Part) (es : List Entry) → messages (map (entry_under p) es) ≡ messages es
entry_under_messages p [] = refl
entry_under_messages p (e ∷ es) = ap (λ l. e.1 ∷ l) (entry_under_messages p es)

pub returns : goal.returns
returns c t p text = ap messages (c.read_under.ensures t p text) ∙ entry_under_messages p _
