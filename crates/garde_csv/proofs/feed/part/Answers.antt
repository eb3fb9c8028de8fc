use Rattle.std.proofs.Common.{◌+◌, ◌<◌, ◌++◌, ℕ, List, drop, get_or, length, take, arith, refl, subst, sym}
use Rattle.std.proofs.lemmas.List.{drop_more}
use Rattle.csv.specs.Records.{fields_of}
use Rattle.garde_csv.specs.Places.{action_of}
use Rattle.garde_csv.specs.Quotes.{seen_of}
use Rattle.garde_csv.specs.Steps.{Reads}
use Rattle.garde_csv.proofs.Joining.{byte-reads, joins-place, reads-both, run-reads}
use Rattle.garde_csv.proofs.feed.part.Goals as goal

pub returns-then-end-text-clause-reads : goal.returns-then-end-text-clause-reads
returns-then-end-text-clause-reads c =
    let run = c.run_end-end.ensures in
    run-reads c.args.text.now c.run_end-end.result (seen_of c.args.walk.now) (seen_of c.join.new.self)
    (fields_of c.args.cells.now) c.args.cell.now.items c.extend_from_slice.new.self.items
    (joins-place c.args.walk.now.place) run.bound run.plain c.join.ensures.none c.join.ensures.some c.in_ok-extend_from_slice.ensures.items

pub returns-clause-reads : goal.returns-clause-reads
returns-clause-reads c =
    let text = c.args.text.now in
    let n = c.run_end-end.result in
    let fields = fields_of c.args.cells.now in
    let field = c.args.cell.now.items ++ take n text in
    let run = c.run_end-end.ensures in
    let done = c.in_ok-ended.ensures in
    let within : n < length text = omega arith in
    let next = drop_more text n 0 within in
    let front = run-reads text n (seen_of c.args.walk.now) (seen_of c.join.new.self) fields c.args.cell.now.items field
    (joins-place c.args.walk.now.place) run.bound run.plain c.join.ensures.none c.join.ensures.some refl in
    let byte = byte-reads (seen_of c.join.new.self) (seen_of c.step-action.new.self) fields (fields_of c.apply.new.cells) field c.apply.new.cell.items
    (get_or text n 0) (drop (n + 1) text) (action_of c.step-action.result) c.in_ok-ended.ended
    c.step-action.ensures.action done.ends c.step-action.ensures.seen done.fields done.field in
    reads-both (seen_of c.args.walk.now) (seen_of c.join.new.self) (seen_of c.step-action.new.self) fields fields (fields_of c.apply.new.cells)
    c.args.cell.now.items field c.apply.new.cell.items text (drop n text) (drop (n + 1) text) c.in_ok-ended.ended front
    (subst (λ (l : List ℕ). Reads (seen_of c.join.new.self) fields field l (seen_of c.step-action.new.self) (fields_of c.apply.new.cells) c.apply.new.cell.items (drop (n + 1) text) c.in_ok-ended.ended) (sym next) byte)
