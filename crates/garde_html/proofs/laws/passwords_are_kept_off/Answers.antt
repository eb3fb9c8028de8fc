use Rattle.garde_html.proofs.Pages.{passwords_are_kept_off}
use Rattle.garde_html.proofs.laws.passwords_are_kept_off.Goals as goal

pub returns : goal.returns
returns c = passwords_are_kept_off
