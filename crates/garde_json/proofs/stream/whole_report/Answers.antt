use Rattle.std.proofs.Common.{[], ◌∷◌, ap, ◌∙◌}
use Rattle.json.specs.Token.{Token}
use Rattle.garde_json.specs.Json.{report_json}
use Rattle.garde_json.specs.Tokens.{tokens_of}
use Rattle.garde_json.proofs.Listed.{none_reads}
use Rattle.garde_json.proofs.Taken.{report_ends, report_whole, report_without_faults, tail_is}
use Rattle.garde_json.proofs.stream.whole_report.Goals as goal

pub returns-in_err-report : goal.returns-in_err-report
returns-in_err-report c =
    none_reads (tokens_of report_json) c.args.reader.now c.from_residual.result c.from_residual.ensures
    (report_without_faults c.args.reader.now c.opens_object.new.reader c.has_key.new.reader (c.if-not-opens_object.ensures {u = tt}) (c.if-not-has_key.ensures {u = tt}) (c.in_err-report.ensures {u = tt}))

pub returns-then-not-ends_object : goal.returns-then-not-ends_object
returns-then-not-ends_object c = λ others same.
    let faults = c.in_ok-report.ensures {u = tt} in
    c.if-not-ends_object.ensures {u = tt} [] (report_ends c.args.reader.now c.opens_object.new.reader c.has_key.new.reader c.next_entries.new.reader faults.0 others
    (c.if-not-opens_object.ensures {u = tt}) (c.if-not-has_key.ensures {u = tt}) faults.1 same)

pub returns-then-not-is_at_end : goal.returns-then-not-is_at_end
returns-then-not-is_at_end c = λ others same.
    let faults = c.in_ok-report.ensures {u = tt} in
    c.if-not-is_at_end.ensures {u = tt} (tail_is Token.end_object c.next_entries.new.reader c.ends_object.new.reader [] (c.if-not-ends_object.ensures {u = tt})
    (report_ends c.args.reader.now c.opens_object.new.reader c.has_key.new.reader c.next_entries.new.reader faults.0 others
    (c.if-not-opens_object.ensures {u = tt}) (c.if-not-has_key.ensures {u = tt}) faults.1 same))

pub returns : goal.returns
returns c =
    let faults = c.in_ok-report.ensures {u = tt} in (
      faults.0,
      report_whole c.args.reader.now c.opens_object.new.reader c.has_key.new.reader c.next_entries.new.reader faults.0
          (c.if-not-opens_object.ensures {u = tt}) (c.if-not-has_key.ensures {u = tt}) faults.1
          (c.if-not-ends_object.ensures {u = tt} ∙ ap (λ l. Token.end_object ∷ l) (c.if-not-is_at_end.ensures {u = tt})),
      faults.2,
    )
