use Rattle.std.proofs.Common.{refl, rules, ◌-◌, ◌^◌}
use Rattle.garde.specs.Fields.{◌and◌, ascii, at_least, bytes, is, str}
use Rattle.garde.proofs.Author.{visited_under, visited_full, visited_option_calls, visited_poppable}
use Rattle.example_types.proofs.names.fn.EachTextCheckVecOptionString.check.apply.Goals as goal

pub returns-in_err-push : goal.returns-in_err-push
returns-in_err-push g c = visited_full _ _ refl c.in_err-push.ensures.err c.in_err-push.ensures.full c.from_residual.ensures.0

pub pop-requires : goal.pop-requires
pop-requires g c = visited_poppable _ _ c.in_ok-push.ensures.ok (visited_option_calls _ (g.H.I18n.text c.captures.h.now) (λ text. is (ascii (str text)) and is (bytes (at_least 1) (str text))) _ c.apply-outcome.ensures (search rules))

pub returns : goal.returns
returns g c = visited_under _ _ c.push.ensures.valid c.in_ok-push.ensures.ok (visited_option_calls _ _ _ _ c.apply-outcome.ensures (search rules)) c.pop.ensures
