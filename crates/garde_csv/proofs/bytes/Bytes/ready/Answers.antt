use Rattle.std.proofs.Common.{◌≡◌, length, min, rules}
use Rattle.garde_csv.proofs.Joining.{ready-part}
use Rattle.garde_csv.proofs.bytes.Bytes.ready.Goals as goal

pub returns : goal.returns
returns g c =
    let buffer = c.args.self.now.buffer.value in
    let all : c.deref.result.now ≡ buffer = search rules in
    let end : c.min-end.result ≡ min c.args.self.now.filled (length buffer) = search rules in
    let from : c.min.result ≡ min c.args.self.now.at c.min-end.result = search rules in
    rw (from, end, all) (ready-part buffer c.args.self.now.at c.args.self.now.filled)
