-- A crash while no call is made leaves what the stores have.
use Rattle.std.proofs.Common.{◌≡◌, sym, subst}
use Rattle.qz_disk.specs.declared.disk.Disk.{Ghosts}
use Rattle.qz_disk.specs.Disk.{IsLawful}
use Rattle.qz_stores.proofs.Moments.{rests as store_rests}
use Rattle.qz_trigger_store.specs.Laws.{trigger_lawful}
use Rattle.qz_trigger_store.specs.View.{disk_state, LeavesEither}
use Rattle.qz_trigger_store.specs.declared.stores.TriggerStore.{TriggerStore}
use Rattle.qz_checkin.specs.Laws.{state_lawful}
use Rattle.qz_checkin.specs.View.{disk_state as rows_disk_state, LeavesEither as LeaveEither}
use Rattle.qz_checkin.specs.declared.stores.StateStore.{StateStore}
use Rattle.qz_cluster.specs.View.{EachLeavesEither, triggers_disk, states_disk}
use Rattle.qz_cluster.specs.declared.clusters.Cluster.{Cluster}

pub triggers_rest : {D : Type 0} {g : Ghosts D} (s : TriggerStore D g) → IsLawful (disk_state s) → g.honest → LeavesEither s s
triggers_rest s lawful honest = store_rests trigger_lawful s.store lawful honest

pub states_rest : {D : Type 0} {g : Ghosts D} (s : StateStore D g) → IsLawful (rows_disk_state s) → g.honest → LeaveEither s s
states_rest s lawful honest = store_rests state_lawful s.store lawful honest

pub rests : {D : Type 0} {g : Ghosts D} (c : Cluster D g) → IsLawful (triggers_disk c) → IsLawful (states_disk c) → g.honest → EachLeavesEither c c
rests c first second honest = record { triggers = triggers_rest c.triggers first honest; states = states_rest c.states second honest }

-- what only held epochs were changed after
pub then_held : {D : Type 0} {g : Ghosts D} (c d e : Cluster D g) → EachLeavesEither c d → (e.triggers ≡ d.triggers) × (e.states ≡ d.states) → EachLeavesEither c e
then_held c d e leaves same = record {
  triggers = subst (λ t. LeavesEither c.triggers t) (sym same.0) leaves.triggers;
  states = subst (λ s. LeaveEither c.states s) (sym same.1) leaves.states;
}
