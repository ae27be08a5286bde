-- What is seen of a cluster.
use Rattle.std.specs.Prelude.{⊤}
use Rattle.qz_disk.specs.declared.disk.Disk.{Ghosts}
use Rattle.qz_disk.specs.Disk.{DiskState}
use Rattle.qz_steps.specs.declared.rooms.Marked.TheVariants.{Made, NoRoom}
use Rattle.qz_steps.specs.declared.steps.Step.{Step}
use Rattle.qz_steps.specs.declared.steps.Step.TheVariants.{Join, Restart}
use Rattle.qz_steps.specs.declared.steps.StepReply.{StepReply}
use Rattle.qz_steps.specs.declared.steps.StepReply.TheVariants as reply
use Rattle.qz_checkin.specs.declared.stores.StateStore.{StateStore}
use Rattle.qz_trigger_store.specs.declared.stores.TriggerStore.{TriggerStore}
use Rattle.qz_trigger_store.specs.View.{view as store_view, behind_of, disk_of as store_disk, disk_state, IsAsBefore, LeavesEither, IsTold as TriggersTold}
use Rattle.qz_checkin.specs.View.{view as states_view, disk_of as rows_disk, disk_state as rows_disk_state, IsAsBefore as AreAsBefore, LeavesEither as LeaveEither, IsTold as StatesTold}
use Rattle.qz_cluster.specs.Steps.{ClusterState}
use Rattle.qz_cluster.specs.declared.clusters.Cluster.{Cluster}

-- the cluster at this moment
abbrev pub view : {D : Type 0} {g : Ghosts D} → Cluster D g → ClusterState
view c = record {
  triggers = store_view c.triggers;
  states = states_view c.states;
  held = c.held.items;
  behind = behind_of c.triggers;
  standing = c.standing;
}

-- the stores
abbrev pub triggers_of : {D : Type 0} {g : Ghosts D} → Cluster D g → TriggerStore D g
triggers_of c = c.triggers

abbrev pub states_of : {D : Type 0} {g : Ghosts D} → Cluster D g → StateStore D g
states_of c = c.states

-- the disks that the stores are on
abbrev pub disk_of_triggers : {D : Type 0} {g : Ghosts D} → Cluster D g → D
disk_of_triggers c = store_disk c.triggers

abbrev pub disk_of_states : {D : Type 0} {g : Ghosts D} → Cluster D g → D
disk_of_states c = rows_disk c.states

-- their content and their images, where they are honest
abbrev pub triggers_disk : {D : Type 0} {g : Ghosts D} → Cluster D g → DiskState
triggers_disk c = disk_state c.triggers

abbrev pub states_disk : {D : Type 0} {g : Ghosts D} → Cluster D g → DiskState
states_disk c = rows_disk_state c.states

-- Both disks are honest, and each held a whole list when its store was opened.
abbrev pub IsTold : {D : Type 0} {g : Ghosts D} → Cluster D g → Type 0
IsTold c = TriggersTold c.triggers × StatesTold c.states

-- nothing of the trigger store and of its disk has changed
abbrev pub KeepsTriggers : {D : Type 0} {g : Ghosts D} → Cluster D g → Cluster D g → Type 0
KeepsTriggers c d = IsAsBefore c.triggers d.triggers

-- nothing of both stores and of their disks has changed
abbrev pub KeepsStores : {D : Type 0} {g : Ghosts D} → Cluster D g → Cluster D g → Type 0
KeepsStores c d = KeepsTriggers c d × AreAsBefore c.states d.states

-- Which stores a reply leaves as they were, with their disks: both, unless the step was done or a disk failed.
abbrev pub KeepsUnlessDone : {D : Type 0} {g : Ghosts D} → StepReply → Cluster D g → Cluster D g → Type 0
KeepsUnlessDone (reply.Ok r) c d = ⊤
KeepsUnlessDone reply.Fault c d = ⊤
KeepsUnlessDone reply.Restarted c d = ⊤
KeepsUnlessDone (reply.Refused refusal) c d = KeepsStores c d
KeepsUnlessDone reply.Closed c d = KeepsStores c d
KeepsUnlessDone reply.Stopped c d = KeepsStores c d
KeepsUnlessDone (reply.Shown shown) c d = KeepsStores c d
KeepsUnlessDone (reply.Marked Made) c d = ⊤
KeepsUnlessDone (reply.Marked NoRoom) c d = KeepsStores c d
KeepsUnlessDone (reply.Room room) c d = KeepsStores c d

-- The same of a join: where its second transaction was refused, its check-in was done before.
abbrev pub KeepsUnlessJoined : {D : Type 0} {g : Ghosts D} → StepReply → Cluster D g → Cluster D g → Type 0
KeepsUnlessJoined (reply.Refused refusal) c d = KeepsTriggers c d
KeepsUnlessJoined r c d = KeepsUnlessDone r c d

-- what a step leaves as it was that was answered so
abbrev pub Keeps : {D : Type 0} {g : Ghosts D} → Step → StepReply → Cluster D g → Cluster D g → Type 0
Keeps (Join node interval) r c d = KeepsUnlessJoined r c d
Keeps step r c d = KeepsUnlessDone r c d

-- What a step leaves as it was that had no answer: both stores, but a join may have checked in. A restart shuts both.
abbrev pub KeepsUnanswered : {D : Type 0} {g : Ghosts D} → Step → Cluster D g → Cluster D g → Type 0
KeepsUnanswered (Join node interval) c d = KeepsTriggers c d
KeepsUnanswered Restart c d = ⊤
KeepsUnanswered step c d = KeepsStores c d

-- A crash at any moment of a call leaves each store as it was before the call, or as it is after it.
pub record EachLeavesEither {D : Type 0} {g : Ghosts D} (c d : Cluster D g) : Type 0 where
  pub triggers : LeavesEither c.triggers d.triggers
  pub states : LeaveEither c.states d.states
