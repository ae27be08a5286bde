-- A trigger store that a call left as it was.
use Rattle.std.proofs.Common.{◌≡◌, inr, ◌+◌, length, ◌++◌, sym, ap, subst}
use Rattle.qz_disk.specs.declared.disk.Disk.{Ghosts}
use Rattle.qz_journal.specs.Commits.{LackRoom}
use Rattle.qz_journal.specs.View.{disk_of as journal_disk, gate_of, count_of as payloads_of}
use Rattle.qz_snapshot.specs.Checkpoints.{snapshot_written}
use Rattle.qz_types.specs.Tables.{SchedulerTables}
use Rattle.qz_trigger_store.specs.Entries.{TriggerState}
use Rattle.qz_trigger_store.specs.View.{view, disk_of, tables_of, base_count_of, found_of, added_of, IsAsBefore}
use Rattle.qz_trigger_store.specs.declared.stores.TriggerStore.{TriggerStore}
use Rattle.qz_top.specs.Found.{count_of}
use Rattle.qz_top.specs.Resting.{HasFewBehind}

module _ {D : Type 0} {g : Ghosts D} (s t : TriggerStore D g) (before : IsAsBefore s t) where
  pub same_view : view t ≡ view s
  same_view =
      let store = before.0 in
      λ i. record {
        history = record { base_count = store.1.1 i; base = store.1.2 i; entries = store.1.3 i ++ store.5 i };
        gate = gate_of (store.0 i);
        payloads = payloads_of (store.0 i);
        is_open = store.6 i;
        undecided = store.7 i;
        faults = g.faults (journal_disk (store.0 i));
      }

  pub same_disk : disk_of t ≡ disk_of s
  same_disk = ap journal_disk before.0.0

  -- a snapshot that had no room has none
  pub few_left : LackRoom (snapshot_written (tables_of s) (view s).payloads (base_count_of s + length (found_of s ++ added_of s))) (view s).gate (view s).payloads → HasFewBehind t
  few_left lack =
      let both : ◌≡◌ {A = SchedulerTables × TriggerState} (tables_of s, view s) (tables_of t, view t) = sym (λ i. (before.0.4 i, same_view i)) in
      inr (subst (λ (x : SchedulerTables × TriggerState). LackRoom (snapshot_written x.0 x.1.payloads (count_of x.1.history)) x.1.gate x.1.payloads) both lack)
