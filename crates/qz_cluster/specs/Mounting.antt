-- What an opening of both stores finds on their disks.
use Rattle.std.specs.Prelude.{⊤, ◌≡◌, ℕ, ◌≤◌}
use Rattle.qz_civil.specs.Causes.{Rose}
use Rattle.qz_disk.specs.declared.disk.Disk.{Ghosts}
use Rattle.qz_journal.specs.declared.errors.MountError.{MountError}
use Rattle.qz_journal.specs.declared.errors.MountError.TheVariants as mount
use Rattle.qz_journal.specs.Through.{OnlyReads, OnlyReadsUnless}
use Rattle.qz_types.specs.declared.stores.Store.{Store}
use Rattle.qz_types.specs.declared.stores.Store.TheVariants.{Triggers, States}
use Rattle.qz_trigger_store.specs.Bytes.{StandsFrom}
use Rattle.qz_trigger_store.specs.Entries.{TriggerState}
use Rattle.qz_trigger_store.specs.Opening.{IsOpened, IsRefused}
use Rattle.qz_checkin.specs.Opening.{IsRefused as AreRefused}

-- The trigger store is opened first. Where it is refused, the disk of the state store isn't touched; where the state store
-- is refused, the trigger store's disk was only read.
abbrev pub DisksAfter : {D : Type 0} → Ghosts D → Store → MountError → D → D → D → D → Type 0
DisksAfter g Triggers error triggers states triggers_now states_now =
    OnlyReadsUnless (error ≡ mount.Fault) (g.state triggers) (g.state triggers_now) × (states_now ≡ states)
DisksAfter g States error triggers states triggers_now states_now =
    OnlyReads (g.state triggers) (g.state triggers_now) × OnlyReadsUnless (error ≡ mount.Fault) (g.state states) (g.state states_now)

-- why a store is refused, by the bytes of its disk
abbrev pub RefusedBy : {D : Type 0} → Ghosts D → Store → MountError → D → D → Type 0
RefusedBy g Triggers error triggers states = IsRefused (g.state triggers).content error
RefusedBy g States error triggers states = AreRefused (g.state states).content error

-- where the state store is refused, the trigger store stands: it could have been opened
abbrev pub StandsBefore : {D : Type 0} → Ghosts D → Store → D → Type 0
StandsBefore g Triggers triggers = ⊤
StandsBefore g States triggers = (version : ℕ) × (s : TriggerState) × IsOpened s × StandsFrom version (g.state triggers).content s.history

-- the count of the disk that failed rose
abbrev pub RoseOf : {D : Type 0} → Ghosts D → Store → D → D → D → D → Type 0
RoseOf g Triggers triggers states triggers_now states_now = Rose (g.faults triggers) (g.faults triggers_now)
RoseOf g States triggers states triggers_now states_now = Rose (g.faults states) (g.faults states_now)

-- no count fell
pub record CountsRise {D : Type 0} (g : Ghosts D) (triggers states triggers_now states_now : D) : Type 0 where
  pub of_triggers : g.faults triggers ≤ g.faults triggers_now
  pub of_states : g.faults states ≤ g.faults states_now
