-- Disks that tell what they hold still do after a call.
use Rattle.std.proofs.Math.Logic.{∥∥₁_map}
use Rattle.qz_disk.specs.declared.disk.Disk.{Ghosts}
use Rattle.qz_trigger_store.specs.View.{LeavesEither, IsTold as TriggersTold}
use Rattle.qz_trigger_store.specs.declared.stores.TriggerStore.{TriggerStore}
use Rattle.qz_checkin.specs.View.{LeavesEither as LeaveEither, IsTold as StatesTold}
use Rattle.qz_checkin.specs.declared.stores.StateStore.{StateStore}
use Rattle.qz_cluster.specs.View.{EachLeavesEither, IsTold}
use Rattle.qz_cluster.specs.declared.clusters.Cluster.{Cluster}

pub triggers_told : {D : Type 0} {g : Ghosts D} (s t : TriggerStore D g) → (g.honest → LeavesEither s t) → TriggersTold s → TriggersTold t
triggers_told s t leaves told = (told.0, ∥∥₁_map told.1 (λ x. (x.0, (leaves told.0 x.0 x.1).0)))

pub states_told : {D : Type 0} {g : Ghosts D} (s t : StateStore D g) → (g.honest → LeaveEither s t) → StatesTold s → StatesTold t
states_told s t leaves told = (told.0, ∥∥₁_map told.1 (λ x. (x.0, (leaves told.0 x.0 x.1).0)))

pub still_told : {D : Type 0} {g : Ghosts D} (c d : Cluster D g) → (g.honest → EachLeavesEither c d) → IsTold c → IsTold d
still_told c d leaves told =
    (triggers_told c.triggers d.triggers (λ honest. (leaves honest).triggers) told.0, states_told c.states d.states (λ honest. (leaves honest).states) told.1)
