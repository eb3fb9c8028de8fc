use Rattle.std.proofs.Common.{◌∙◌}
use Rattle.jiff_fmt.specs.Temporal.{date_parts, parse_date}
use Rattle.garde_parsed.specs.Moments.{date_from}
use Rattle.garde_parsed.proofs.Parts.{parsed}
use Rattle.garde_parsed.proofs.MomentLaws.{date_back}
use Rattle.garde_parsed.proofs.moments.DateTextType.read.Goals as goal

pub returns : goal.returns
returns c = c.ok.ensures.value ∙ parsed date_from date_parts parse_date date_back c.args.text.now c.parse.result (λ e. e) c.parse.ensures.value
