use Rattle.qz_trigger_store.specs.View.{view as store_view}
use Rattle.qz_cluster.proofs.Founds.{found_in, are_found_in}
use Rattle.qz_cluster.proofs.clusters.Cluster.mount.Goals as goal

pub returns-in-Ok-mount-clause-found : goal.returns-in-Ok-mount-clause-found
returns-in-Ok-mount-clause-found g c honest =
    let t = c.in-Ok.ensures in
    let s = c.in-Ok-mount.ensures in (
      found_in (g.D.Disk.state c.args.triggers).content c.in-Ok.triggers (t.bytes honest).1 t.nothing_added t.begins (t.stands honest) (t.without_slots honest) (t.whole honest),
      are_found_in (g.D.Disk.state c.args.states).content c.in-Ok-mount.states (s.stands honest).0 (s.whole honest),
    )

pub returns-in-Ok-mount-clause-whole : goal.returns-in-Ok-mount-clause-whole
returns-in-Ok-mount-clause-whole g c honest w v held rows = ((c.in-Ok.ensures.whole honest w held).0, (c.in-Ok-mount.ensures.whole honest v rows).0)

pub returns-in-Ok-mount-clause-goes_on : goal.returns-in-Ok-mount-clause-goes_on
returns-in-Ok-mount-clause-goes_on g c honest w held = (c.in-Ok.ensures.whole honest w held).0

pub returns-in-Ok-mount-clause-rows_go_on : goal.returns-in-Ok-mount-clause-rows_go_on
returns-in-Ok-mount-clause-rows_go_on g c honest v rows = (c.in-Ok-mount.ensures.whole honest v rows).0

pub returns-in-Err-mount-clause-whole : goal.returns-in-Err-mount-clause-whole
returns-in-Err-mount-clause-whole g c honest w v held rows = c.in-Err-mount.ensures.whole honest v rows

pub returns-in-Err-mount-clause-first : goal.returns-in-Err-mount-clause-first
returns-in-Err-mount-clause-first g c honest = let t = c.in-Ok.ensures in (_, store_view c.in-Ok.triggers, t.opened, t.stands honest)

pub returns-in-Err-clause-whole : goal.returns-in-Err-clause-whole
returns-in-Err-clause-whole g c honest w v held rows = c.in-Err.ensures.whole honest w held
