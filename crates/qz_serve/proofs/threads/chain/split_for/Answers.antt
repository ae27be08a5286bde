use Rattle.std.proofs.Common.{length, arith}
use Rattle.qz_serve.proofs.Halves.{enough}
use Rattle.qz_serve.proofs.threads.chain.split_for.Goals as goal

pub split-requires-clause-more : goal.split-requires-clause-more
split-requires-clause-more g c = (enough (length c.args.others.now) c.args.seat.more c.requires.more).0

pub returns-clause-more : goal.returns-clause-more
returns-clause-more g c =
    let e = enough (length c.args.others.now) c.args.seat.more c.requires.more in
    let n = c.split.ensures.counts in
    let half = e.1 in
    let one = e.2 in
    let first = n.0 in
    let second = n.1 in
    (omega arith, omega arith)
