use Rattle.std.proofs.Common.{rules}
use Rattle.qz_row_lock.specs.Seats.{seen, first_value}
use Rattle.qz_rounds.specs.Looking.{HasCheckedIn}
use Rattle.qz_serve.proofs.Finished.{late_until, none_ok, some_err}
use Rattle.qz_serve.proofs.threads.pairs.run_rounds.Goals as goal

pub returns-clause-ended : goal.returns-clause-ended
returns-clause-ended g c none =
    let q = g.T.RowStore in
    late_until (g.C.SharedClock.shows c.args.clock.now) (λ at. HasCheckedIn (q.listed (q.state (first_value c.args.states.now).opened.value).history) c.args.me.now.node at (seen c.check_rounds-ended.new.state)) _ c.args.until (search rules)
    (none_ok c.check_rounds-ended.result c.cause_of.result _ c.cause_of.ensures c.check_rounds-ended.ensures.ended none)

pub returns-clause-stopped : goal.returns-clause-stopped
returns-clause-stopped g c = some_err c.check_rounds-ended.result c.cause_of.result _ c.cause_of.ensures c.check_rounds-ended.ensures.stopped
