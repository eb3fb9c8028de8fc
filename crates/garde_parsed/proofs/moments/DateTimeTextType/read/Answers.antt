use Rattle.std.proofs.Common.{◌∙◌}
use Rattle.jiff_fmt.specs.Temporal.{parse_datetime}
use Rattle.garde_parsed.specs.Moments.{datetime_parts, datetime_from}
use Rattle.garde_parsed.proofs.Parts.{parsed}
use Rattle.garde_parsed.proofs.MomentLaws.{datetime_back}
use Rattle.garde_parsed.proofs.moments.DateTimeTextType.read.Goals as goal

pub returns : goal.returns
returns c = c.ok.ensures.value ∙ parsed datetime_from datetime_parts parse_datetime datetime_back c.args.text.now c.parse.result (λ e. e) c.parse.ensures.value
