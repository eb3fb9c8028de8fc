use Rattle.std.proofs.Common.{◌≡◌, ◌≤◌, ◌<◌, length, rules, true, false, slice_index_or}
use Rattle.csv.specs.Reading.{is_bom}
use Rattle.garde_csv.proofs.Feeding.{head-marked, head-short, head-unmarked}
use Rattle.garde_csv.proofs.bytes.Bytes.drop_mark.Goals as goal
use Rattle.garde_csv.proofs.bytes.Bytes.drop_mark.Goals.{else-self-eq3-via-then-self-eq3+else-is_mark, else-self-eq3-via-else-self-eq3}

pub returns-then-is_mark-clause-bytes : goal.returns-then-is_mark-clause-bytes
returns-then-is_mark-clause-bytes g c =
    let b = c.args.self.now.buffer.value in
    let three : c.args.self.now.filled ≡ 3 = search rules in
    let long : 3 ≤ length b = search rules in
    let test : is_bom (slice_index_or b 0 0) (slice_index_or b 1 0) (slice_index_or b 2 0) ≡ true = search rules in
    rw (c.requires.at, three) (head-marked b long test)

pub returns-else-self-eq3-clause-bytes : goal.returns-else-self-eq3-clause-bytes
returns-else-self-eq3-clause-bytes g c = elim c.else-self-eq3.branch [
  | else-self-eq3-via-then-self-eq3+else-is_mark w ↦
      let b = c.args.self.now.buffer.value in
      let three : c.args.self.now.filled ≡ 3 = search rules in
      let long : 3 ≤ length b = search rules in
      let test : is_bom (slice_index_or b 0 0) (slice_index_or b 1 0) (slice_index_or b 2 0) ≡ false = search rules in
      rw (c.requires.at, three) (head-unmarked b long test)
  | else-self-eq3-via-else-self-eq3 w ↦
      let h = c.requires.filled in
      let short : c.args.self.now.filled < 3 = search rules in
      rw c.requires.at (head-short c.args.self.now.buffer.value c.args.self.now.filled short)
]
