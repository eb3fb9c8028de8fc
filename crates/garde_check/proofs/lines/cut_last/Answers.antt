use Rattle.std.proofs.Common.{rules, ◌∙◌, ap, sym, map, ◌++◌, append-nil}
use Rattle.std.proofs.lemmas.List.{nil_from_length}
use Rattle.garde_check.specs.Lines.{lines_of}
use Rattle.garde_check.specs.Users.{text_of}
use Rattle.garde_check.proofs.Cuts.{last_line, rest_lines, users_pushed}
use Rattle.garde_check.proofs.lines.cut_last.Goals as goal

-- what is left is the last line
pub returns-in_ok-push-clause-lines : goal.returns-in_ok-push-clause-lines
returns-in_ok-push-clause-lines c =
    let new = c.cut_lines.new.users.items in
    let last = c.in_ok-last.last.now in
    let told = c.in_ok-last.ensures {u = tt} in
    rest_lines told.cut ∙ ap (λ l. map text_of new ++ l) (last_line last told.line (search rules))
    ∙ sym (users_pushed new c.push.new.self.items c.in_ok-user_of.field-0 last c.in_ok-push.ensures.items c.in_ok-user_of.ensures.text)

-- nothing is left
pub returns-else-not-is_empty-clause-lines : goal.returns-else-not-is_empty-clause-lines
returns-else-not-is_empty-clause-lines c =
    let new = c.cut_lines.new.users.items in
    rest_lines (c.in_ok-last.ensures {u = tt}).cut ∙ ap (λ l. map text_of new ++ lines_of l) (nil_from_length c.in_ok-last.last.now (search rules))
    ∙ append-nil (map text_of new)
