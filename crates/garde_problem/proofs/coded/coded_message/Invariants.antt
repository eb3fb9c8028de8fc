use Rattle.std.proofs.Common.{◌≡◌, ◌++◌, drop, string_bytes}
use Rattle.garde_problem.specs.Coded.{coded_text, params_text, passed}
use Rattle.garde_problem.proofs.coded.coded_message.Given as goal

-- what is written, and then the parameters that are left, are the whole message
abbrev pub invariant-loop-name : goal.invariant-loop-name
invariant-loop-name l =
    string_bytes l.text ++ params_text (passed (drop l.name-index l.params))
    ≡ coded_text (record { code = l.code; detail = l.detail; params = passed l.params })
