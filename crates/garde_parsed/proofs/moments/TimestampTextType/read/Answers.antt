use Rattle.std.proofs.Common.{◌∙◌}
use Rattle.jiff_fmt.specs.Temporal.{parse_timestamp}
use Rattle.garde_parsed.specs.Moments.{nanos_of, timestamp_from}
use Rattle.garde_parsed.proofs.Parts.{parsed}
use Rattle.garde_parsed.proofs.MomentLaws.{timestamp_back}
use Rattle.garde_parsed.proofs.moments.TimestampTextType.read.Goals as goal

pub returns : goal.returns
returns c = c.ok.ensures.value ∙ parsed timestamp_from nanos_of parse_timestamp timestamp_back c.args.text.now c.parse.result (λ e. e) c.parse.ensures.value
