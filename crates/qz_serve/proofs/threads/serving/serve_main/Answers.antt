use Rattle.std.proofs.Common.{◌≡◌, ◌∙◌, ap, rules, sym, subst, to_z, of_z, w64}
use Rattle.std.specs.Prelude.{IfSome}
use Rattle.qz_row_lock.specs.Seats.{ids, mine, seen, first_value}
use Rattle.qz_shared.specs.Calls.{known}
use Rattle.qz_serve.specs.Asking.{heard_in, first_entries}
use Rattle.qz_serve.specs.Heard.{heard, heard_since}
use Rattle.qz_serve.specs.Declining.{AtLimit, DeclinedOnTheWay}
use Rattle.qz_serve.specs.Entries.{IsScheduled}
use Rattle.qz_serve.proofs.Closing.{main_served}
use Rattle.qz_serve.proofs.Finished.{came_on, came_under, came_of, fault_shows}
use Rattle.qz_serve.proofs.Stopping.{main_stopped, under_stopped}
use Rattle.qz_serve.proofs.threads.serving.serve_main.Goals as goal

pub returns-clause-served : goal.returns-clause-served
returns-clause-served g c =
    let k = g.S.RowStore in
    let row = c.in_ok-row.row in
    let o = c.in_ok-row.ensures in
    let r = c.run_main-seat.ensures in
    let n = c.run_main-seat.result.0 in
    let f = c.close_row.ensures in
    main_served (g.C.SharedClock.shows c.args.clock.now) _ c.args.until k.seat_of (heard_in row) (heard_since k.kind k.listed k.seat_of (k.state c.args.triggers)) c.args.me.now _ (ids n) r.of.past (first_entries row) (k.listed (k.state c.args.triggers).history) (mine n) (seen n) (k.listed (k.state c.close_row.result).history) _ _
    r.of.mine_is f.mine f.begins r.entries r.told o.counts.0
    (ap (λ s. λ numbers entries. heard k.kind k.listed k.seat_of (k.state s) numbers (first_entries row) entries) o.opened.0 ∙ ap (λ s. λ numbers entries. heard k.kind k.listed k.seat_of (k.state c.args.triggers) numbers (k.listed (k.state s).history) entries) o.opened.1)
    (ap (λ s. k.listed (k.state s).history) o.opened.1) (search rules)

pub returns-clause-declined : goal.returns-clause-declined
returns-clause-declined g c =
    let k = g.S.RowStore in
    let row = c.in_ok-row.row in
    let o = c.in_ok-row.ensures in
    let r = c.run_main-seat.ensures in
    let n = c.run_main-seat.result.0 in
    let f = c.close_row.ensures in
    let until : to_z w64 (of_z w64 c.args.until) ≡ c.args.until = search rules in
    let opened = k.state (first_value row).opened.value in
    let asked = IsScheduled (g.C.SharedClock.shows c.args.clock.now) c.args.until c.args.me.now 0 in
    subst (λ s. IfSome c.run_main-seat.result.1 (AtLimit (DeclinedOnTheWay k.kind k.listed asked (k.state s) (k.state c.close_row.result)))) o.opened.0
    (main_stopped k.kind k.listed opened (k.state c.close_row.result) g.met.S.RowStore.lists (first_entries row) r.of.past asked asked (known n) (λ e is. is) r.of.seen_is (ap (λ s. k.listed (k.state s).history) (o.opened.1 ∙ sym o.opened.0)) f.begins _
    (under_stopped k.kind k.listed opened _ _ c.args.until _ _ 0 (known n) _ o.counts.0 r.stopped until))

pub returns-clause-ended : goal.returns-clause-ended
returns-clause-ended g c none =
    let k = g.S.RowStore in
    let o = c.in_ok-row.ensures in
    let r = c.run_main-seat.ensures in
    let n = c.run_main-seat.result.0 in
    let opened = k.state (first_value c.in_ok-row.row).opened.value in
    let shows = g.C.SharedClock.shows c.args.clock.now in
    came_of k.kind k.listed opened (k.state c.args.triggers) shows c.args.until c.args.me.now 0 (k.listed (k.state c.close_row.result).history) (ap k.state o.opened.0)
    (came_on k.kind k.listed opened shows c.args.until c.args.me.now 0 (seen n) (k.listed (k.state c.close_row.result).history) c.close_row.ensures.begins
    (came_under k.kind k.listed opened shows _ c.args.until c.args.me.now _ 0 (seen n) (search rules) o.counts.0 (r.ended none)))

pub returns-clause-fault : goal.returns-clause-fault
returns-clause-fault g c fault =
    let k = g.S.RowStore in
    let r = c.run_main-seat.ensures in
    c.close_row.ensures.shut (fault_shows k.kind k.listed (k.state (first_value c.in_ok-row.row).opened.value) _ (known c.run_main-seat.result.0) c.run_main-seat.result.1 r.stopped fault)
