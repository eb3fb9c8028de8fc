use Rattle.std.proofs.Common.{◌∙◌}
use Rattle.jiff_fmt.specs.Temporal.{time_parts, parse_time}
use Rattle.garde_parsed.specs.Moments.{time_from}
use Rattle.garde_parsed.proofs.Parts.{parsed}
use Rattle.garde_parsed.proofs.MomentLaws.{time_back}
use Rattle.garde_parsed.proofs.moments.TimeTextType.read.Goals as goal

pub returns : goal.returns
returns c = c.ok.ensures.value ∙ parsed time_from time_parts parse_time time_back c.args.text.now c.parse.result (λ e. e) c.parse.ensures.value
