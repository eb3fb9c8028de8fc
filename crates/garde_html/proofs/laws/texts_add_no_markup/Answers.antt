use Rattle.garde_html.proofs.Pages.{texts_add_no_markup}
use Rattle.garde_html.proofs.laws.texts_add_no_markup.Goals as goal

pub returns : goal.returns
returns c = texts_add_no_markup
