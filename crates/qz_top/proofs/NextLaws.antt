-- What the opening after a call lists.
use Rattle.std.proofs.Common.{◌≡◌, ◌⊎◌, inl, inr, ℕ, ◌<◌, subst, arith}
use Rattle.qz_disk.specs.declared.disk.Disk.{Ghosts}
use Rattle.qz_journal.specs.Commits.{LackRoom}
use Rattle.qz_snapshot.specs.Checkpoints.{snapshot_written}
use Rattle.qz_types.specs.Tables.{SchedulerTables}
use Rattle.qz_trigger_store.specs.Opening.{OpensWith}
use Rattle.qz_trigger_store.specs.View.{view, behind_of, disk_state}
use Rattle.qz_trigger_store.specs.declared.stores.TriggerStore.{TriggerStore}
use Rattle.qz_top.specs.Found.{count_of}
use Rattle.qz_top.specs.Resting.{HasFewBehind, OpensShortIfRoom}

-- as many entries as came after the snapshot
pub short_next : {D : Type 0} {g : Ghosts D} (s : TriggerStore D g) (many : ℕ) → many ≡ behind_of s → OpensWith (disk_state s).content many → HasFewBehind s → OpensShortIfRoom (view s) (disk_state s).content
short_next s many is opens (inl few) = inl (λ version h stands. let so = opens version h stands in omega (arith, so, is, few))
short_next s many is opens (inr lack) =
    inr (subst (λ (T : SchedulerTables). LackRoom (snapshot_written T (view s).payloads (count_of (view s).history)) (view s).gate (view s).payloads) s.store.replayed lack)
