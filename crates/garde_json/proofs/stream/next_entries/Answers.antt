use Rattle.std.proofs.Common.{[], ◌∷◌, ◌++◌, refl, sym, ap, ◌∙◌}
use Rattle.json.specs.Token.{Token}
use Rattle.garde_json.specs.First.{entries_json}
use Rattle.garde_json.specs.Json.{entry_json}
use Rattle.garde_json.proofs.Listed.{grown_by}
use Rattle.garde_json.proofs.Taken.{goes_on, goes_end, goes_astray, list_astray, none_next}
use Rattle.garde_json.proofs.stream.next_entries.Goals as goal

-- neither a fault nor the end is next
pub returns-in_err-fault : goal.returns-in_err-fault
returns-in_err-fault c =
    let entries = c.entries.invariant in
    let test = c.entries-test.ensures {u = tt} in
    none_next entries_json c.args.reader.now c.next_entry.new.reader c.from_residual.result c.from_residual.ensures
    (list_astray entry_json c.args.reader.now c.opens_list.new.reader (c.if-not-opens_list.ensures {u = tt})
    (goes_astray entry_json entries.0 c.opens_list.new.reader c.entries.reader entries.1 test.taken
    (λ x rest is. c.in_err-fault.ensures {u = tt} x rest (test.kept refl ∙ is))))

-- a fault is next, and the report has it
pub entries-preserved : goal.entries-preserved
entries-preserved c =
    let entries = c.entries.invariant in
    let test = c.entries-test.ensures {u = tt} in
    let next = c.in_ok-fault.ensures {u = tt} in (
      entries.0 ++ (next.0 ∷ []),
      goes_on entry_json entries.0 next.0 c.opens_list.new.reader c.entries.reader c.next_entry.new.reader entries.1 (sym (test.kept refl) ∙ next.1),
      grown_by c.with_fault-report.result c.entries.report c.in_ok-fault.fault entries.0 next.0 c.with_fault-report.ensures entries.2 next.2,
    )

-- the end is next
pub returns : goal.returns
returns c =
    let entries = c.entries.invariant in
    let test = c.entries-test.ensures {u = tt} in (
      entries.0,
      c.if-not-opens_list.ensures {u = tt} ∙ ap (λ l. Token.begin_array ∷ l) (goes_end entry_json entries.0 c.opens_list.new.reader c.entries.reader c.ends_list.new.reader entries.1 test.taken),
      entries.2,
    )
