use Rattle.garde_html.proofs.Pages.{typed_is_text}
use Rattle.garde_html.proofs.laws.typed_is_text.Goals as goal

pub returns : goal.returns
returns c = typed_is_text
