use Rattle.std.proofs.Common.{◌∙◌, rules}
use Rattle.qz_row_lock.specs.Seats.{ids, mine, seen, first_value}
use Rattle.qz_serve.proofs.Asks.{under_same}
use Rattle.qz_serve.proofs.Finished.{came_under}
use Rattle.qz_serve.proofs.Joining.{ran_in}
use Rattle.qz_serve.proofs.Stopping.{under_stopped}
use Rattle.qz_serve.proofs.threads.nodes.run_node.Goals as goal

pub returns-clause-entries : goal.returns-clause-entries
returns-clause-entries g c =
    let f = c.work-cause.ensures in
    under_same _ _ c.args.until _ _ _ _ f.same.number f.entries (search rules)

pub returns-clause-ran : goal.returns-clause-ran
returns-clause-ran g c =
    let k = g.S.RowStore in
    let n = c.work-cause.new.seat in
    let f = c.work-cause.ensures in
    let o = f.of in
    let row = c.args.row.now in
    ran_in k.kind k.listed k.seat_of (k.state (first_value row).opened.value) (k.listed (k.state (first_value row).store).history) _ (ids n) o.past (seen n) (mine n) _ _ (f.same.ids ∙ c.requires.own) o.seen_is o.mine_is f.ran

pub returns-clause-stopped : goal.returns-clause-stopped
returns-clause-stopped g c =
    let f = c.work-cause.ensures in
    under_stopped _ _ _ _ _ c.args.until _ _ _ _ _ f.same.number f.stopped (search rules)

pub returns-clause-ended : goal.returns-clause-ended
returns-clause-ended g c none =
    let k = g.S.RowStore in
    let f = c.work-cause.ensures in
    came_under k.kind k.listed (k.state (first_value c.args.row.now).opened.value) (g.C.SharedClock.shows c.args.clock.now) _ c.args.until c.args.me.now _ c.args.seat.number (seen c.work-cause.new.seat) (search rules) f.same.number (f.ended none)
