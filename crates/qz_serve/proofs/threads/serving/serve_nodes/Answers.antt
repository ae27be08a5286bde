use Rattle.std.proofs.Common.{◌≡◌, ◌∙◌, ap, map, rules, sym, to_z, of_z, w64}
use Rattle.qz_types.specs.Rows.{MemberData}
use Rattle.qz_row_lock.specs.Seats.{ids, mine, seen, shut, first_value}
use Rattle.qz_rounds.specs.Looking.{LeavesRows}
use Rattle.qz_serve.specs.Asking.{heard_in, first_entries}
use Rattle.qz_serve.specs.Heard.{heard, heard_since}
use Rattle.qz_serve.proofs.Closing.{nodes_served}
use Rattle.qz_serve.proofs.Finished.{either_closed, ended_as, nodes_on}
use Rattle.qz_serve.proofs.Stopping.{closed_stopped, thread_as}
use Rattle.qz_serve.proofs.Worked.{at_moment}
use Rattle.qz_serve.proofs.threads.serving.serve_nodes.Goals as goal

pub returns-clause-served : goal.returns-clause-served
returns-clause-served g c =
    let k = g.S.RowStore in
    let q = g.T.RowStore in
    let row = c.in_ok-row.row in
    let rounds = c.in_ok-rounds.rounds in
    let o = c.in_ok-row.ensures in
    let p = c.in_ok-rounds.ensures in
    let r = c.run_watched-seat.ensures in
    let n = c.run_watched-seat.result.0.0 in
    let m = c.run_watched-seat.result.0.1 in
    let f = c.close_row.ensures in
    let h = c.close_row-2.ensures in
    nodes_served (g.C.SharedClock.shows c.args.clock.now) c.args.until k.seat_of _ (LeavesRows q.kind q.listed q.state g.T.RoundStore.tables (q.state c.args.states)) (heard_in row) (heard_since k.kind k.listed k.seat_of (k.state c.args.triggers)) c.args.members.now
    (ids n) r.of.0.past (first_entries row) (k.listed (k.state c.args.triggers).history) (mine n) (seen n) (k.listed (k.state c.close_row.result).history)
    (q.listed (q.state (first_value rounds).store).history) _ (q.listed (q.state c.args.states).history) (mine m) (seen m) (q.listed (q.state c.close_row-2.result).history) _ _
    r.of.0.mine_is f.mine f.begins r.once h.mine h.begins (at_moment _ _ c.args.until _ _ _ _ _ _ _ _ _ _ _ r.worked (search rules) (search rules))
    (ap (λ s. LeavesRows q.kind q.listed q.state g.T.RoundStore.tables (q.state s)) p.opened.0)
    (ap (λ s. λ numbers entries. heard k.kind k.listed k.seat_of (k.state s) numbers (first_entries row) entries) o.opened.0 ∙ ap (λ s. λ numbers entries. heard k.kind k.listed k.seat_of (k.state c.args.triggers) numbers (k.listed (k.state s).history) entries) o.opened.1)
    (ap (λ s. k.listed (k.state s).history) o.opened.1) (ap (λ s. q.listed (q.state s).history) p.opened.1) (ap (λ s. q.listed (q.state s).history) p.opened.0)

pub returns-clause-declined : goal.returns-clause-declined
returns-clause-declined g c =
    let k = g.S.RowStore in
    let q = g.T.RowStore in
    let row = c.in_ok-row.row in
    let rounds = c.in_ok-rounds.rounds in
    let o = c.in_ok-row.ensures in
    let p = c.in_ok-rounds.ensures in
    let r = c.run_watched-seat.ensures in
    let n = c.run_watched-seat.result.0.0 in
    let m = c.run_watched-seat.result.0.1 in
    let f = c.close_row.ensures in
    let h = c.close_row-2.ensures in
    let opened = k.state (first_value row).opened.value in
    let row_opened = q.state (first_value rounds).opened.value in
    let until : to_z w64 (of_z w64 c.args.until) ≡ c.args.until = search rules in
    let names = map (λ (x : MemberData). x.node) c.args.members.now in
    let now = k.state c.close_row.result in
    let now_rows = q.state c.close_row-2.result in
    thread_as k.kind k.listed q.kind q.listed (g.C.SharedClock.shows c.args.clock.now) names now now_rows opened (k.state c.args.triggers) row_opened (q.state c.args.states) _ c.args.until
    (LeavesRows q.kind q.listed q.state g.T.RoundStore.tables row_opened) (LeavesRows q.kind q.listed q.state g.T.RoundStore.tables (q.state c.args.states)) (q.listed row_opened.history) (q.listed (q.state c.args.states).history) _
    (ap k.state o.opened.0) (ap q.state p.opened.0) until (ap (λ s. LeavesRows q.kind q.listed q.state g.T.RoundStore.tables (q.state s)) p.opened.0) (ap (λ s. q.listed (q.state s).history) p.opened.0)
    (closed_stopped k.kind k.listed opened (first_entries row) q.kind q.listed row_opened (q.listed (q.state (first_value rounds).store).history) (g.C.SharedClock.shows c.args.clock.now) _ (LeavesRows q.kind q.listed q.state g.T.RoundStore.tables row_opened) (q.listed row_opened.history)
    c.lists_last.ensures c.lists_last-2.ensures names (seen n) (seen m) now now_rows (ap (λ s. k.listed (k.state s).history) (o.opened.1 ∙ sym o.opened.0)) (ap (λ s. q.listed (q.state s).history) (p.opened.1 ∙ sym p.opened.0)) f.begins h.begins _ r.stopped)

pub returns-clause-ended : goal.returns-clause-ended
returns-clause-ended g c none =
    let k = g.S.RowStore in
    let q = g.T.RowStore in
    let o = c.in_ok-row.ensures in
    let p = c.in_ok-rounds.ensures in
    let r = c.run_watched-seat.ensures in
    let n = c.run_watched-seat.result.0.0 in
    let m = c.run_watched-seat.result.0.1 in
    let opened = k.state (first_value c.in_ok-row.row).opened.value in
    let row_opened = q.state (first_value c.in_ok-rounds.rounds).opened.value in
    let shows = g.C.SharedClock.shows c.args.clock.now in
    ended_as k.kind k.listed opened shows _ (q.listed row_opened.history) (k.state c.args.triggers) c.args.until (q.listed (q.state c.args.states).history) (k.listed (k.state c.close_row.result).history) (q.listed (q.state c.close_row-2.result).history) c.args.members.now
    (ap k.state o.opened.0) (search rules) (ap (λ s. q.listed (q.state s).history) p.opened.0)
    (nodes_on k.kind k.listed opened shows _ (q.listed row_opened.history) (seen n) (k.listed (k.state c.close_row.result).history) (seen m) (q.listed (q.state c.close_row-2.result).history) c.args.members.now c.close_row.ensures.begins c.close_row-2.ensures.begins (r.ended none))

pub returns-clause-fault : goal.returns-clause-fault
returns-clause-fault g c fault =
    let n = c.run_watched-seat.result.0.0 in
    let m = c.run_watched-seat.result.0.1 in
    either_closed (shut n) (shut m) _ _ c.close_row.ensures.shut c.close_row-2.ensures.shut (c.run_watched-seat.ensures.fault fault)
