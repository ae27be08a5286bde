-- The checkpoint at the end of a call.
use Rattle.std.specs.Prelude.{◌≡◌, ◌⊎◌, ◌<◌, ℕ, List, length, true, false, Result, Ok, Err}
use Rattle.qz_disk.specs.declared.disk.Disk.{Ghosts}
use Rattle.qz_journal.specs.Commits.{LackRoom}
use Rattle.qz_model.specs.History.{History, replay}
use Rattle.qz_snapshot.specs.Checkpoints.{snapshot_written}
use Rattle.qz_stores.specs.Checkpoints.{Marks, Breaks}
use Rattle.qz_trigger_store.specs.Bytes.{StandsFrom}
use Rattle.qz_trigger_store.specs.Entries.{TriggerState}
use Rattle.qz_trigger_store.specs.View.{view, tables_of, behind_of}
use Rattle.qz_trigger_store.specs.declared.stores.TriggerStore.{TriggerStore}
use Rattle.qz_top.specs.Found.{count_of}
use Rattle.qz_top.specs.Trails.{RunState}
use Rattle.qz_top.specs.declared.checkpoints.Unchecked.{Unchecked}
use Rattle.qz_top.specs.declared.checkpoints.Unchecked.TheVariants.{Fault, NoMemory}
use Rattle.qz_top.specs.declared.statuses.Status.{Status}
use Rattle.qz_top.specs.declared.statuses.Status.TheVariants as status

-- what it makes of the trigger store: a snapshot, or nothing where none is due or it has no room; or the disk failed
abbrev pub Rests : Result (Unit {0}) Unchecked → TriggerState → TriggerState → Type 0
Rests (Ok _) s t = (t ≡ s) ⊎ Marks s t
Rests (Err Fault) s t = Breaks s t
Rests (Err NoMemory) s t = t ≡ s

-- Fewer than 4096 entries came after the last snapshot, or after the beginning where there is none; or a further snapshot has
-- no room.
abbrev pub HasFewBehind : {D : Type 0} {g : Ghosts D} → TriggerStore D g → Type 0
HasFewBehind s =
    (behind_of s < 4096)
    ⊎ LackRoom (snapshot_written (tables_of s) (view s).payloads (count_of (view s).history)) (view s).gate (view s).payloads

-- An open store that has.
abbrev pub IsRestedWell : {D : Type 0} {g : Ghosts D} → TriggerStore D g → Type 0
IsRestedWell s = ((view s).is_open ≡ true) × HasFewBehind s

-- The next opening of these bytes lists fewer than 4096 entries after its base.
abbrev pub OpensShort : List ℕ → Type 0
OpensShort bytes = (version : ℕ) (h : History) → StandsFrom version bytes h → length h.entries < 4096

-- It does; or a further snapshot of this state has no room.
abbrev pub OpensShortIfRoom : TriggerState → List ℕ → Type 0
OpensShortIfRoom t bytes = OpensShort bytes ⊎ LackRoom (snapshot_written (replay t.history) t.payloads (count_of t.history)) t.gate t.payloads

-- A script in which nothing but the trigger store changed, and that so.
pub record RestedRun (Changes : TriggerState → TriggerState → Type 0) (last after : RunState) : Type 0 where
  pub not_own : last.is_own ≡ false
  pub triggers : Changes last.cluster.triggers after.cluster.triggers
  pub states : after.cluster.states ≡ last.cluster.states
  pub held : after.cluster.held ≡ last.cluster.held
  pub trail : after.trail ≡ last.trail
  pub own : after.is_own ≡ last.is_own

-- a script was left as it was, or a snapshot was made
abbrev pub IsRested : RunState → RunState → Type 0
IsRested last after = (after ≡ last) ⊎ RestedRun Marks last after

-- or the disk failed in it
abbrev pub MayBreak : RunState → RunState → Type 0
MayBreak last after = IsRested last after ⊎ RestedRun Breaks last after

-- what a checkpoint makes of a script
abbrev pub RestsAs : Result (Unit {0}) Unchecked → RunState → RunState → Type 0
RestsAs (Ok _) last after = IsRested last after
RestsAs (Err Fault) last after = RestedRun Breaks last after
RestsAs (Err NoMemory) last after = after ≡ last

-- by the status with which the script ends after its last line; where there is no memory for a snapshot, nothing is done
abbrev pub RestsRun : Status → RunState → RunState → Type 0
RestsRun status.Ok last after = IsRested last after
RestsRun status.DiskFault last after = MayBreak last after
RestsRun status.WriteFault last after = MayBreak last after
RestsRun status.NoMemory last after = after ≡ last
RestsRun s last after = ⊥

-- What becomes of the status of a run of nodes, and of the trigger store. The checkpoint is made where the run came to its end or
-- its budget was spent, and only a status that would be Ok tells that it failed.
abbrev pub RestsNodes : Status → Status → TriggerState → TriggerState → Type 0
RestsNodes status.Ok s s' t =
    ((s ≡ status.Ok) × Rests (Ok tt) s' t) ⊎ ((s ≡ status.DiskFault) × Breaks s' t) ⊎ ((s ≡ status.NoMemory) × (t ≡ s'))
RestsNodes (status.Budget firings) s s' t = (s ≡ status.Budget firings) × (Rests (Ok tt) s' t ⊎ Breaks s' t)
RestsNodes told s s' t = (s ≡ told) × (t ≡ s')
