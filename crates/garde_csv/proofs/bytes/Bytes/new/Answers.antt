use Rattle.garde_csv.specs.Lists.{buffered}
use Rattle.garde_csv.proofs.Feeding.{without-mark}
use Rattle.garde_csv.proofs.bytes.Bytes.new.Goals as goal

pub returns-clause-bytes : goal.returns-clause-bytes
returns-clause-bytes g c =
    let e = c.in_ok-fill_head.ensures in
    let d = c.drop_mark.ensures in
    rw (d.bytes, d.source) (without-mark _ _ (buffered c.fill_head.new.self) e.keeps (λ lt. e.end (rw d.count at lt)) (rw d.count e.filled))
