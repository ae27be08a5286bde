use Rattle.std.proofs.Common.{rules}
use Rattle.qz_row_lock.specs.Seats.{seen, first_value}
use Rattle.qz_rounds.specs.Looking.{HasCheckedIn}
use Rattle.qz_serve.proofs.Finished.{late_until}
use Rattle.qz_serve.proofs.threads.pairs.run_both.Goals as goal

pub returns-clause-ended_rounds : goal.returns-clause-ended_rounds
returns-clause-ended_rounds g c none =
    let q = g.T.RowStore in
    late_until (g.C.SharedClock.shows c.args.clock.now) (λ at. HasCheckedIn (q.listed (q.state (first_value c.args.states.now).opened.value).history) c.args.me.now.node at (seen c.join.result.1.1)) _ c.args.until (search rules) (c.join.ensures.second.8 none)
