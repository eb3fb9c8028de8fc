use Rattle.std.proofs.Common.{◌∙◌, ap, append-nil}
use Rattle.garde_problem.specs.Escaped.{escaped_text, escaped_path_text}
use Rattle.garde_places.proofs.short.escaped.Goals as goal

-- the text of a path of one key is that of the key
pub returns : goal.returns
returns c = c.in_ok-shown.ensures.ok ∙ ap escaped_path_text c.in_ok-path.ensures ∙ append-nil (escaped_text c.args.text.now)
