use Rattle.std.proofs.Common.{◌∙◌, rules}
use Rattle.qz_row_lock.specs.Seats.{ids, mine, seen, shut, first_value}
use Rattle.qz_rounds.specs.Looking.{LeavesRows}
use Rattle.qz_shared.specs.Calls.{known}
use Rattle.qz_serve.specs.Asking.{heard_in, first_entries}
use Rattle.qz_serve.proofs.Finished.{pair_ended, pair_fault}
use Rattle.qz_serve.proofs.Stopping.{as_told, pair_stopped}
use Rattle.qz_serve.proofs.Worked.{pair_worked}
use Rattle.qz_serve.proofs.threads.pairs.run_pair.Goals as goal

pub returns-clause-worked : goal.returns-clause-worked
returns-clause-worked g c =
    let row = c.args.row.now in
    let j = c.join.ensures in
    let n = c.join.result in
    let b = c.run_both-seat.ensures in
    let r = c.run_both-seat.result in
    let first = c.split-seat.ensures.first in
    pair_worked _ c.args.until _ _ (heard_in row) g.S.RowStore.seat_of (first_entries row) _ c.args.me.now _ c.args.seat.number (ids n) (ids r.0.0) (ids r.1.0) j.of.past (mine n) (mine r.0.0) (mine r.1.0) (seen n) (seen r.0.0) (seen r.1.1) (mine r.1.1) _ _
    j.of.mine_is j.ids first.0 (b.same.0.ids ∙ first.1 ∙ c.requires.own) j.mine.0 j.mine.1 j.seen.0 b.entries b.adds.recoveries b.adds.entries b.ran (search rules)

pub returns-clause-stopped : goal.returns-clause-stopped
returns-clause-stopped g c =
    let k = g.S.RowStore in
    let q = g.T.RowStore in
    let row = c.args.row.now in
    let rounds = c.args.states.now in
    let opened = q.state (first_value rounds).opened.value in
    let j = c.join.ensures in
    let n = c.join.result in
    let b = c.run_both-seat.ensures in
    let r = c.run_both-seat.result in
    as_told _ _ _ c.least_cause.ensures
    (pair_stopped k.kind k.listed (k.state (first_value row).opened.value) (first_entries row) q.kind q.listed opened (q.listed (q.state (first_value rounds).store).history)
    (g.C.SharedClock.shows c.args.clock.now) c.args.until (LeavesRows q.kind q.listed q.state g.T.RoundStore.tables opened) (q.listed opened.history) _ c.args.me.now _ (known r.0.0) (known r.1.0) (known r.1.1)
    b.of.0.past b.of.1.past b.of.2.past (seen n) b.of.0.seen_is b.of.1.seen_is b.of.2.seen_is j.seen.0 j.seen.1 (search rules) _ _ b.stopped b.stopped_rounds)

pub returns-clause-ended : goal.returns-clause-ended
returns-clause-ended g c none =
    let k = g.S.RowStore in
    let q = g.T.RowStore in
    let row = c.args.row.now in
    let opened = q.state (first_value c.args.states.now).opened.value in
    let b = c.run_both-seat.ensures in
    let r = c.run_both-seat.result in
    pair_ended k.kind k.listed (k.state (first_value row).opened.value) (g.C.SharedClock.shows c.args.clock.now) c.args.until (q.listed opened.history) _ c.args.me.now _ (seen r.0.0) (seen c.join.result) (seen r.1.1) r.0.2 r.1.2 _
    c.least_cause.ensures c.join.ensures.seen.0 b.ended b.ended_rounds (search rules) none

pub returns-clause-fault : goal.returns-clause-fault
returns-clause-fault g c fault =
    let k = g.S.RowStore in
    let q = g.T.RowStore in
    let b = c.run_both-seat.ensures in
    let r = c.run_both-seat.result in
    pair_fault k.kind k.listed (k.state (first_value c.args.row.now).opened.value) q.kind q.listed (q.state (first_value c.args.states.now).opened.value) _ _ _ (known r.0.0) (known r.1.0) (known r.1.1) (shut c.join.result) r.0.2 r.1.2 _
    c.least_cause.ensures b.stopped b.stopped_rounds c.join.ensures.shut c.join.ensures.shut_other fault
