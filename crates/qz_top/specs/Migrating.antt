-- What `migrate` did: a trigger store of version 1 was taken to version 2, or needed no upgrade.
use Rattle.std.specs.Prelude.{◌≡◌, ◌⊎◌, ℕ, ℤ, true, false, List, [], ◌∷◌, Option, codes, Result, Ok, Err}
use Rattle.qz_disk.specs.declared.disk.Disk.{Ghosts}
use Rattle.qz_disk.specs.Disk.{LeavesOnly}
use Rattle.qz_io.specs.Clocks.{Tells}
use Rattle.qz_io.specs.Outside.{Outside}
use Rattle.qz_types.specs.Entries.{EntryData}
use Rattle.qz_types.specs.declared.commands.Actor.TheVariants.{Client}
use Rattle.qz_types.specs.declared.commands.Command.TheVariants.{Upgrade}
use Rattle.qz_types.specs.declared.errors.SubmitError.{SubmitError}
use Rattle.qz_types.specs.declared.errors.SubmitError.TheVariants as submit
use Rattle.qz_types.specs.declared.replies.Reply.{Reply}
use Rattle.qz_types.specs.declared.replies.Reply.TheVariants.{Done}
use Rattle.qz_types.specs.declared.stores.Store.TheVariants.{Triggers}
use Rattle.qz_model.specs.History.{replay}
use Rattle.qz_journal.specs.Through.{OnlyReads, OnlyReadsUnless}
use Rattle.qz_laws.specs.Losses.{AreExact}
use Rattle.qz_journal.specs.declared.errors.MountError.{MountError}
use Rattle.qz_journal.specs.declared.errors.MountError.TheVariants as mount
use Rattle.qz_stores.specs.Stores.{Appends, Overflows, Starves, Fails}
use Rattle.qz_trigger_store.specs.Bytes.{Whole, IsWhole, MayBe}
use Rattle.qz_trigger_store.specs.Entries.{TriggerState, is_old, trigger_entry}
use Rattle.qz_trigger_store.specs.Opening.{IsOpened, IsRefused, IsSound}
use Rattle.qz_trigger_store.specs.View.{IsOfEither}
use Rattle.qz_cluster.specs.Found.{IsFoundIn}
use Rattle.qz_cluster.specs.Script.{entry_of}
use Rattle.qz_top.specs.Calls.{refusal_of, trail_of}
use Rattle.qz_top.specs.Lists.{WritesText}
use Rattle.qz_top.specs.declared.ended.Ended.{Ended}
use Rattle.qz_top.specs.declared.statuses.Status.{Status}
use Rattle.qz_top.specs.declared.statuses.Status.TheVariants as status

-- the entry of a client that upgrades a store at this reading of the clock
abbrev pub upgrade_entry : ℤ → EntryData
upgrade_entry at = entry_of Client Upgrade at

-- The store was one of version 1 that wasn't upgraded. Its history has the upgrade as one entry more.
pub record IsUpgraded (at : ℤ) (opened end : TriggerState) : Type 0 where
  pub was_old : is_old (replay opened.history) ≡ true
  pub appended : Appends trigger_entry (upgrade_entry at) Done opened end

-- The store is of version 2, or was upgraded before. It stays as it is.
pub record NeedsNone (opened end : TriggerState) : Type 0 where
  pub current : is_old (replay opened.history) ≡ false
  pub stays : end ≡ opened

-- One of the two words was written and handed on, or a part of it where the output failed: the one that is true of the store.
abbrev pub SaysWhich : Status → ℤ → TriggerState → TriggerState → Outside → Outside → Type 0
SaysWhich s at opened end old new =
    (IsUpgraded at opened end × WritesText s (codes "migrated\n") old new) ⊎ (NeedsNone opened end × WritesText s (codes "current\n") old new)

-- What came of an upgrade at this reading, by the status of the call. Where it isn't one of the two words, an old store wasn't
-- upgraded: there is no room for the record, memory was wanted, or the disk failed. Then nothing was written, and unless the disk
-- failed the store stays as it is.
abbrev pub Upgrades : Status → ℤ → TriggerState → TriggerState → Outside → Outside → Type 0
Upgrades status.Ok at opened end old new = SaysWhich status.Ok at opened end old new
Upgrades status.WriteFault at opened end old new = SaysWhich status.WriteFault at opened end old new
Upgrades (status.JournalFull need room) at opened end old new =
    Overflows trigger_entry (upgrade_entry at) need room opened end × (end ≡ opened) × (new ≡ old)
Upgrades status.NoMemory at opened end old new = Starves trigger_entry (upgrade_entry at) opened end × (end ≡ opened) × (new ≡ old)
Upgrades status.DiskFault at opened end old new = Fails trigger_entry (upgrade_entry at) opened end × (new ≡ old)
-- no upgrade ends so
Upgrades s at opened end old new = ⊥

-- what is said of a store's answer to an upgrade; that it needs none is the only refusal
abbrev pub AnswersAs : Result Reply SubmitError → Status → Outside → Outside → Type 0
AnswersAs (Ok reply) s old new = ((s ≡ status.Ok) ⊎ (s ≡ status.WriteFault)) × WritesText s (codes "migrated\n") old new
AnswersAs (Err (submit.Refused refusal)) s old new = ((s ≡ status.Ok) ⊎ (s ≡ status.WriteFault)) × WritesText s (codes "current\n") old new
AnswersAs (Err (submit.JournalFull need room)) s old new = (s ≡ status.JournalFull need room) × (new ≡ old)
AnswersAs (Err submit.NoMemory) s old new = (s ≡ status.NoMemory) × (new ≡ old)
AnswersAs (Err (submit.Closed at)) s old new = (s ≡ status.DiskFault) × (new ≡ old)
AnswersAs (Err submit.Fault) s old new = (s ≡ status.DiskFault) × (new ≡ old)

-- The trigger store that stands on its disk was opened, and upgraded if it was old. The other disk wasn't touched.
pub record MigratedOnDisk {D : Type 0} {g : Ghosts D} (triggers states : D) (e : Ended D g)
    (read read' : Option (List ℤ)) (old new : Outside) : Type 0 where
  -- what the bytes tell from the slot in use on was opened: the history is legal, and the tables that it leaves are valid
  pub opened : TriggerState
  pub is_opened : IsOpened opened
  pub found : g.honest → IsFoundIn (g.state triggers).content opened
  -- the one reading that was taken of the clock, and what came of the upgrade at it
  pub at : ℤ
  pub told : Tells read read' (at ∷ [])
  pub end : TriggerState
  pub upgrades : Upgrades e.status at opened end old new
  pub states_stay : e.states ≡ states
  pub no_trail : trail_of e.trail ≡ []
  pub faults : g.faults e.triggers ≡ end.faults
  -- at the end the history is legal, it leaves valid tables, and what was lost since its base was recovered once
  pub sound : IsSound end
  pub recovered : ∥ AreExact end.history.base end.history.entries ∥₁
  -- at the end a crash leaves the bytes of that history, or of it with the undecided entry
  pub images : g.honest → (w : Whole) → IsWhole w (g.state triggers).content → (b : List ℕ) → (g.state e.triggers).IsImage b → MayBe w end.history end.undecided b
  -- where nothing was added and no disk failed, the disk was only read
  pub reads : g.honest → end ≡ opened → OnlyReads (g.state triggers) (g.state e.triggers)
  -- The disk was only read until the store was open. From then on a crash at any moment leaves the bytes of the store as it was
  -- opened, or those of the store as it is at the end: so it is as it was before, or upgraded.
  pub any_moment : g.honest → (w : Whole) → IsWhole w (g.state triggers).content → (between : D) × OnlyReads (g.state triggers) (g.state between)
      × LeavesOnly (g.state between) (g.state e.triggers) (IsOfEither w opened end)

-- The trigger store wasn't opened, and nothing was done: its disk was only read, so unless it failed it is as it was, and a crash
-- leaves only what it could have left before.
pub record NotMounted {D : Type 0} {g : Ghosts D} (triggers states : D) (e : Ended D g)
    (read read' : Option (List ℤ)) (old new : Outside) : Type 0 where
  pub error : MountError
  pub status_is : e.status ≡ refusal_of Triggers error
  pub refused : g.honest → IsRefused (g.state triggers).content error
  -- on an honest disk that holds a whole list, it failed or memory ran out
  pub why : g.honest → (w : Whole) → IsWhole w (g.state triggers).content → (error ≡ mount.Fault) ⊎ (error ≡ mount.NoMemory)
  pub reads : g.honest → OnlyReadsUnless (error ≡ mount.Fault) (g.state triggers) (g.state e.triggers)
  pub states_stay : e.states ≡ states
  pub no_trail : trail_of e.trail ≡ []
  pub not_asked : read' ≡ read
  pub untouched : new ≡ old

-- The trigger store was upgraded or needed no upgrade, or it wasn't opened.
abbrev pub RanMigrate : {D : Type 0} {g : Ghosts D} → D → D → Ended D g → Option (List ℤ) → Option (List ℤ) → Outside → Outside → Type 0
RanMigrate triggers states e read read' old new = MigratedOnDisk triggers states e read read' old new ⊎ NotMounted triggers states e read read' old new
