-- What a disk in memory shows of itself, and how each call changes it.
use Rattle.std.specs.Prelude.{◌≡◌, ℕ, List, [], ◌∷◌, ◌++◌, length, OnOk, OnErr}
use Rattle.std.specs.declared.result.Result.{Result}
use Rattle.qz_disk.specs.declared.calls.Call.{Call}
use Rattle.qz_disk.specs.declared.calls.Call.TheVariants.{Restart}
use Rattle.qz_disk.specs.declared.memory.MemDisk.{MemDisk}
use Rattle.qz_disk.specs.Counts.{counted}
use Rattle.qz_disk.specs.Disk.{DiskState}
use Rattle.qz_disk.specs.Memory.{standing_of, memory_state, BringsUp}

-- the bytes that it began with, its record of calls, the images chosen for the coming restarts, and how many calls
-- found no memory
pub record Record : Type 0 where
  pub first : List ℕ
  pub calls : List Call
  pub images : List (List ℕ)
  pub starved : ℕ

abbrev pub record_of : MemDisk → Record
record_of d = record { first = d.first; calls = d.calls.items; images = d.images; starved = d.starved }

abbrev pub state_of : MemDisk → DiskState
state_of d = memory_state d.first d.calls.items

abbrev pub length_of : MemDisk → ℕ
length_of d = length (standing_of d.first d.calls.items).content

-- with these bytes and before the first call
abbrev pub begun : List ℕ → Record
begun first = record { first = first; calls = []; images = []; starved = 0 }

-- a call that found no memory: only the count of those changes
abbrev pub starved_once : Record → Record
starved_once r = record { first = r.first; calls = r.calls; images = r.images; starved = counted r.starved }

-- a call is in the record exactly where it answered Ok
pub record Records {T E : Type 0} (call : Call) (result : Result T E) (old new : Record) : Type 0 where
  pub ok : OnOk result (new ≡ record {
    first = old.first;
    calls = old.calls ++ call ∷ [];
    images = old.images;
    starved = old.starved;
  })
  pub err : OnErr result (new ≡ starved_once old)

abbrev pub content_of : Record → List ℕ
content_of r = (standing_of r.first r.calls).content

-- a restart: the record says what it brought up, by the chosen images
pub record RecordsRestart {T E : Type 0} (result : Result T E) (old new : Record) : Type 0 where
  pub first : new.first ≡ old.first
  pub calls : OnOk result (new.calls ≡ old.calls ++ Restart (content_of new) ∷ [])
  pub chosen : OnOk result (BringsUp (standing_of old.first old.calls) old.images (content_of new) new.images)
  pub starved : OnOk result (new.starved ≡ old.starved)
  pub err : OnErr result (new ≡ starved_once old)
