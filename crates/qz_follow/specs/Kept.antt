-- What is kept of the payloads that were taken.
use Rattle.std.specs.Prelude.{⊤, ◌≡◌, ◌≢◌, ◌<◌, ℕ, pos, length, true, false, List, [], ◌∷◌, ◌++◌, All, Bool, Option, Some, None}
use Rattle.std.specs.List.{AllZip}
use Rattle.qz_civil.specs.Lists.{WithRoom}
use Rattle.qz_journal.specs.Commits.{IsFull}
use Rattle.qz_journal.specs.Layout.{IsPayload, end_of}
use Rattle.qz_types.specs.Entries.{EntryData}
use Rattle.qz_types.specs.Tables.{SchedulerTables, empty, horizon_of}
use Rattle.qz_types.specs.declared.limits.TheConstants.{FIRST_THRESHOLD}
use Rattle.qz_tables.specs.Contents.{TablesData}
use Rattle.qz_trigger_store.specs.Entries.{IsRecordOf}
use Rattle.qz_follow.specs.declared.faults.FollowFault.{FollowFault}
use Rattle.qz_follow.specs.declared.faults.FollowFault.TheVariants as fault
use Rattle.qz_follow.specs.declared.stages.Stage.{Stage}
use Rattle.qz_follow.specs.declared.stages.Stage.TheVariants as stage
use Rattle.qz_follow.specs.declared.keeping.Keeping.{Keeping}
use Rattle.qz_follow.specs.declared.keeping.Keeping.TheVariants as keeping

-- These are the records of these entries, as they came, and end at this offset in a store that has them alone.
pub record AreKept (end : ℕ) (entries : List EntryData) (payloads : List (List ℕ)) : Type 0 where
  pub sizes : All IsPayload payloads
  pub recorded : AllZip IsRecordOf payloads entries
  pub end_is : end ≡ end_of payloads

-- the payloads that are kept, if they are
abbrev pub payloads_in : Option (WithRoom (List ℕ)) → Option (List (List ℕ))
payloads_in None = None
payloads_in (Some list) = Some list.items

-- they are those of these entries
abbrev pub KeepsRecords : ℕ → List EntryData → Option (WithRoom (List ℕ)) → Type 0
KeepsRecords end entries None = ⊤
KeepsRecords end entries (Some list) = AreKept end entries list.items

-- a follower that keeps this has the payloads of records
abbrev pub keeps_payloads : Keeping → Bool
keeps_payloads keeping.Tables = false
keeps_payloads keeping.Payloads = true

-- why there is no place for a payload
abbrev pub IsUnplaced : ℕ → ℕ → ℕ → FollowFault → Type 0
IsUnplaced end count length (fault.BadStream at) = ⊥
IsUnplaced end count length (fault.JournalFull need room) = IsFull end count length need room
IsUnplaced end count length fault.NoMemory = ⊤

-- The copy that is to be kept is there, and the place for it; or nothing is kept.
abbrev pub IsPlaced : Option (WithRoom (List ℕ)) → List ℕ → Option (List ℕ) → Type 0
IsPlaced None payload copy = copy ≡ None
IsPlaced (Some list) payload copy = (0 < list.room) × (copy ≡ Some payload)

-- the payload came last to what is kept
abbrev pub IsKeptToo : List ℕ → Option (WithRoom (List ℕ)) → Option (WithRoom (List ℕ)) → Type 0
IsKeptToo payload None new = new ≡ None
IsKeptToo payload (Some old) new = (list : WithRoom (List ℕ)) × (new ≡ Some list) × (list.items ≡ old.items ++ payload ∷ [])

-- What a new store begins with in place of these tables: nothing where they are those of a new store, else a snapshot of them.
abbrev pub IsBaseOf : ℕ → SchedulerTables → Option TablesData → Type 0
IsBaseOf version start None = start ≡ empty version
IsBaseOf version start (Some base) = (base.tables ≡ start) × (start ≢ empty version)

-- What is kept of a base for a promotion. Until it is settled nothing else was taken.
abbrev pub KeepsBase : ℕ → Stage → SchedulerTables → List EntryData → Option (WithRoom (List ℕ)) → Option TablesData → Type 0
KeepsBase version stage.First start entries kept base = (start ≡ empty version) × (entries ≡ []) × (base ≡ None)
KeepsBase version (stage.Awaited slot) start entries kept base = (start ≡ empty version) × (entries ≡ []) × (base ≡ None)
KeepsBase version stage.Settled start entries None base = ⊤
KeepsBase version stage.Settled start entries (Some list) base = IsBaseOf version start base

-- There is no job, trigger, calendar or zone.
pub record HasNoPlans (T : SchedulerTables) : Type 0 where
  pub jobs : length T.jobs ≡ 0
  pub triggers : length T.triggers ≡ 0
  pub calendars : length T.calendars ≡ 0
  pub zones : length T.zones ≡ 0

-- There is no row of any other kind.
pub record HasNoStates (T : SchedulerTables) : Type 0 where
  pub groups : length T.paused_groups ≡ 0
  pub job_groups : length T.paused_job_groups ≡ 0
  pub members : length T.members ≡ 0
  pub fired_rows : length T.fired ≡ 0

-- The numbers are those of a new store of this version.
pub record HasNewNumbers (version : ℕ) (T : SchedulerTables) : Type 0 where
  pub next_entry : T.next_entry ≡ 1
  pub next_epoch : T.next_epoch ≡ 1
  pub threshold : T.threshold ≡ FIRST_THRESHOLD
  pub last_moment : T.last_moment ≡ pos 0
  pub horizon : T.horizon ≡ horizon_of version
