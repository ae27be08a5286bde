-- What `init` makes of the two disks.
use Rattle.std.specs.Prelude.{◌≡◌, ◌⊎◌, ◌≤◌, ℕ, [], take, drop, Bool, true, false, codes, Result, Ok, Err}
use Rattle.std.specs.Io.KnownBytes.{Appends}
use Rattle.qz_civil.specs.Causes.{Rose}
use Rattle.qz_disk.specs.declared.disk.Disk.{Ghosts}
use Rattle.qz_disk.specs.Disk.{DiskState, Only, Stays, LeavesOnly}
use Rattle.qz_io.specs.Outside.{Outside, IsHandedOn}
use Rattle.qz_journal.specs.Layout.{IsStore, HasStore, Holds, new_header, other_kind}
use Rattle.qz_journal.specs.Through.{IsKept}
use Rattle.qz_journal.specs.declared.layout.TheConstants.{TRIGGERS, STATES}
use Rattle.qz_types.specs.declared.stores.Store.{Store}
use Rattle.qz_types.specs.declared.stores.Store.TheVariants as store
use Rattle.qz_top.specs.declared.making.Unmade.{Unmade}
use Rattle.qz_top.specs.declared.making.Unmade.TheVariants as unmade
use Rattle.qz_top.specs.declared.statuses.Status.{Status}
use Rattle.qz_top.specs.declared.statuses.Status.TheVariants as status

-- An empty store of version 2 was made on a disk that began as no store of either kind does. A crash leaves this store. The
-- rest of the disk stays.
pub record IsNew (kind : ℕ) (old new : DiskState) : Type 0 where
  pub none : HasStore kind old.content → ⊥
  pub empty : Holds new.content 2 kind []
  -- both slots are closed
  pub header : take 16 new.content ≡ new_header 2 kind
  pub durable : Only new.content new
  pub rest : drop 17 new.content ≡ drop 17 old.content

-- A store of this kind and some version is on a disk, and was left as it was.
pub record IsLeft (kind : ℕ) (old new : DiskState) : Type 0 where
  pub store : IsStore kind old.content
  pub stays : Stays old new

-- a new store, or the one that was there
abbrev pub IsMade : ℕ → Bool → DiskState → DiskState → Type 0
IsMade kind true old new = IsNew kind old new
IsMade kind false old new = IsLeft kind old new

-- What came of making a store on a disk: whether there is a new one, or why there is none. A store that is there stays,
-- also if the disk fails.
abbrev pub Makes : ℕ → Result Bool Unmade → DiskState → DiskState → Type 0
Makes kind (Ok made) old new = IsMade kind made old new
Makes kind (Err unmade.OtherKind) old new = IsLeft (other_kind kind) old new
Makes kind (Err unmade.Fault) old new = IsKept kind old new

-- the status of an `init` that made no store on the disk of this one
abbrev pub unmade_status : Unmade → Store → Status
unmade_status unmade.OtherKind s = status.NotAStore s
unmade_status unmade.Fault s = status.DiskFault

-- at least one store is new
pub record AreMade (t t' s s' : DiskState) : Type 0 where
  pub triggers_made : Bool
  pub states_made : Bool
  pub triggers : IsMade TRIGGERS triggers_made t t'
  pub states : IsMade STATES states_made s s'
  pub some : (triggers_made ≡ true) ⊎ (states_made ≡ true)

-- A trigger store is there, new or not, and the disk of states begins as one too.
pub record AreSwapped (t t' s s' : DiskState) : Type 0 where
  pub made : Bool
  pub triggers : IsMade TRIGGERS made t t'
  pub states : IsLeft (other_kind STATES) s s'

-- The disk of triggers failed, and the disk of states wasn't touched.
pub record FirstFails {D : Type 0} (g : Ghosts D) (t t' s s' : D) : Type 0 where
  pub rose : Rose (g.faults t) (g.faults t')
  pub triggers : g.honest → IsKept TRIGGERS (g.state t) (g.state t')
  pub states : s' ≡ s

-- A trigger store is there, new or not, and the disk of states failed.
pub record SecondFails {D : Type 0} (g : Ghosts D) (t t' s s' : D) : Type 0 where
  pub made : Bool
  pub triggers : g.honest → IsMade TRIGGERS made (g.state t) (g.state t')
  pub rose : Rose (g.faults s) (g.faults s')
  pub states : g.honest → IsKept STATES (g.state s) (g.state s')

-- What an `init` that ended so made of the disk of triggers, and of that of states. The two disks are looked at in this
-- order: where the first fails or is the other store's, the second isn't touched.
abbrev pub IsInit : {D : Type 0} → Ghosts D → Status → D → D → D → D → Type 0
IsInit g status.Ok t t' s s' = g.honest → AreMade (g.state t) (g.state t') (g.state s) (g.state s')
IsInit g status.WriteFault t t' s s' = g.honest → AreMade (g.state t) (g.state t') (g.state s) (g.state s')
IsInit g status.Exists t t' s s' =
    g.honest → IsLeft TRIGGERS (g.state t) (g.state t') × IsLeft STATES (g.state s) (g.state s')
IsInit g (status.NotAStore store.Triggers) t t' s s' =
    (g.honest → IsLeft (other_kind TRIGGERS) (g.state t) (g.state t')) × (s' ≡ s)
IsInit g (status.NotAStore store.States) t t' s s' =
    g.honest → AreSwapped (g.state t) (g.state t') (g.state s) (g.state s')
IsInit g status.DiskFault t t' s s' = FirstFails g t t' s s' ⊎ SecondFails g t t' s s'
-- no `init` ends so
IsInit g end t t' s s' = ⊥

-- A disk that begins as a store does, of either kind and any version, is left at any moment as it was, whatever fails.
pub record KeepsStores {D : Type 0} (g : Ghosts D) (t t' s s' : D) : Type 0 where
  pub triggers : g.honest → HasStore TRIGGERS (g.state t).content → LeavesOnly (g.state t) (g.state t') (g.state t).IsImage
  pub states : g.honest → HasStore STATES (g.state s).content → LeavesOnly (g.state s) (g.state s') (g.state s).IsImage

-- `created`, which was handed on, or a part of it where the output failed; else the output wasn't touched
abbrev pub SaysMade : Status → Outside → Outside → Type 0
SaysMade status.Ok old new = Appends old.held new.held (codes "created\n") × IsHandedOn new.held new.handed
SaysMade status.WriteFault old new = (n : ℕ) × (n ≤ 8) × Appends old.held new.held (take n (codes "created\n"))
SaysMade s old new = new ≡ old
