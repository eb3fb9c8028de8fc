use Rattle.garde_json.specs.Json.{entry_json}
use Rattle.garde_json.proofs.Listed.{fault_made}
use Rattle.garde_json.proofs.Taken.{entry_whole, entry_without_end, entry_without_error, entry_without_path, none_next}
use Rattle.garde_json.proofs.stream.next_entry.Goals as goal

pub returns-in_err-path : goal.returns-in_err-path
returns-in_err-path c =
    none_next entry_json c.args.reader.now c.next_path.new.reader c.from_residual.result c.from_residual.ensures
    (entry_without_path c.args.reader.now c.opens_list.new.reader (c.if-not-opens_list.ensures {u = tt}) (c.in_err-path.ensures {u = tt}))

pub returns-in_err-error : goal.returns-in_err-error
returns-in_err-error c =
    let path = c.in_ok-path.ensures {u = tt} in
    none_next entry_json c.args.reader.now c.next_error.new.reader c.from_residual-in_err-error.result c.from_residual-in_err-error.ensures
    (entry_without_error c.args.reader.now c.opens_list.new.reader c.next_path.new.reader path.0 (c.if-not-opens_list.ensures {u = tt}) path.1 (c.in_err-error.ensures {u = tt}))

pub returns-then-not-ends_list : goal.returns-then-not-ends_list
returns-then-not-ends_list c =
    let path = c.in_ok-path.ensures {u = tt} in
    let error = c.in_ok-error.ensures {u = tt} in
    let test = c.if-not-ends_list.ensures {u = tt} in
    entry_without_end c.args.reader.now c.opens_list.new.reader c.next_path.new.reader c.next_error.new.reader path.0 error.0
    (c.if-not-opens_list.ensures {u = tt}) path.1 error.1 test.taken

pub returns : goal.returns
returns c =
    let path = c.in_ok-path.ensures {u = tt} in
    let error = c.in_ok-error.ensures {u = tt} in
    let test = c.if-not-ends_list.ensures {u = tt} in (
      (path.0, error.0),
      entry_whole c.args.reader.now c.opens_list.new.reader c.next_path.new.reader c.next_error.new.reader c.ends_list.new.reader path.0 error.0
          (c.if-not-opens_list.ensures {u = tt}) path.1 error.1 test.taken,
      fault_made c.both.result c.in_ok-path.path c.in_ok-error.error path.0 error.0 c.both.ensures path.2 error.2,
    )
