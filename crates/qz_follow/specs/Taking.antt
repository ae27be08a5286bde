-- What one payload makes of a follower.
use Rattle.std.specs.Prelude.{⊤, ◌≡◌, ◌≢◌, ◌⊎◌, ◌<◌, ◌≤◌, ℕ, ◌+◌, Bool, false, List, [], ◌∷◌, ◌++◌, length, drop, Option, Some, None, if◌then◌else◌, nat_le, ◌==◌}
use Rattle.qz_journal.specs.Commits.{IsFull, need_of, room_of}
use Rattle.qz_journal.specs.Slots.{slot_in_use}
use Rattle.qz_journal.specs.Tails.{start_of}
use Rattle.qz_journal.specs.declared.slots.Slots.{Slots}
use Rattle.qz_stores.specs.Kinds.{StoreKind, IsAccepted}
use Rattle.qz_stores.specs.Opening.{BeginWell, IsUnfit}
use Rattle.qz_stores.specs.Replaying.{IsPassed, IsTaken}
use Rattle.qz_stream.specs.Standing.{Standing, payload_of}
use Rattle.qz_follow.specs.Payloads.{Held, Following, held_of}
use Rattle.qz_follow.specs.declared.faults.FollowFault.{FollowFault}
use Rattle.qz_follow.specs.declared.faults.FollowFault.TheVariants as fault
use Rattle.qz_follow.specs.declared.stages.Stage.{Stage}
use Rattle.qz_follow.specs.declared.stages.Stage.TheVariants as stage

-- The version that the stream says is taken over, before the first payload.
pub record IsBegun (said : Option ℕ) (at : Stage) (old new : ℕ) : Type 0 where
  pub one : at ≡ stage.First → said ≡ Some 1 → new ≡ 1
  pub two : at ≡ stage.First → said ≢ Some 1 → new ≡ 2
  pub later : at ≢ stage.First → new ≡ old

-- All else is as it was, but that a new store begins with its version.
pub record IsRenewed {H S E R : Type 0} (k : StoreKind H S E R) (old new : Held S E) : Type 0 where
  pub parts : new.parts ≡ old.parts
  pub start : old.stage ≡ stage.First → new.start ≡ k.empty new.version
  pub start_stays : old.stage ≢ stage.First → new.start ≡ old.start
  pub entries : new.entries ≡ old.entries
  pub end : new.end ≡ old.end
  pub stage_is : new.stage ≡ old.stage

-- the slot at which a base is awaited when this payload comes
abbrev pub awaited_slot : {H S E R : Type 0} → StoreKind H S E R → Slots → Stage → List ℕ → Option ℕ
awaited_slot k slots stage.First payload = if k.is_part payload then slot_in_use slots else None
awaited_slot k slots (stage.Awaited slot) payload = Some slot
awaited_slot k slots stage.Settled payload = None

-- The payload is a record of an entry that is accepted at this state, and has room after these records.
pub record TakesRecord {H S E R : Type 0} (k : StoreKind H S E R) (T : S) (payload : List ℕ) (old new : List E) (end new_end : ℕ) : Type 0 where
  pub taken : IsTaken k T payload old new
  pub room : need_of (length payload) ≤ room_of end (length old)
  pub end_is : new_end ≡ end + need_of (length payload)

-- A payload was taken where no base is awaited: it is a part of a snapshot, and nothing changed; or it is a record.
pub record TakesPayload {H S E R : Type 0} (k : StoreKind H S E R) (T : S) (payload : List ℕ) (old new : Held S E) : Type 0 where
  pub settled : new.stage ≡ stage.Settled
  pub start : new.start ≡ old.start
  pub by : (IsPassed k payload old.entries new.entries × (new.end ≡ old.end)) ⊎ TakesRecord k T payload old.entries new.entries old.end new.end

-- It comes before the base, and is passed over.
pub record PassesOver {S E : Type 0} (slot start gate : ℕ) (payload : List ℕ) (old new : Held S E) : Type 0 where
  pub none : old.parts ≡ []
  pub before : gate + need_of (length payload) ≤ start
  pub awaited : new.stage ≡ stage.Awaited slot
  pub parts : new.parts ≡ old.parts
  pub same : (new.start ≡ old.start) × (new.entries ≡ old.entries) × (new.end ≡ old.end)

-- It is a part of the base, whose snapshot goes on.
pub record Gathers {H S E R : Type 0} (k : StoreKind H S E R) (slot : ℕ) (payload : List ℕ) (old new : Held S E) : Type 0 where
  pub cut : k.AreCutShort (old.parts ++ payload ∷ [])
  pub awaited : new.stage ≡ stage.Awaited slot
  pub parts : new.parts ≡ old.parts ++ payload ∷ []
  pub same : (new.start ≡ old.start) × (new.entries ≡ old.entries) × (new.end ≡ old.end)

-- It is the last part, and the base is read.
pub record ReadsBase {H S E R : Type 0} (k : StoreKind H S E R) (payload : List ℕ) (old new : Held S E) : Type 0 where
  pub whole : k.AreCutShort (old.parts ++ payload ∷ []) → ⊥
  pub count : ℕ
  pub begins : BeginWell k (old.parts ++ payload ∷ []) new.start count
  pub settled : new.stage ≡ stage.Settled
  pub same : (new.entries ≡ old.entries) × (new.end ≡ old.end)

-- what became of a part
abbrev pub Joins : {H S E R : Type 0} → StoreKind H S E R → ℕ → List ℕ → Held S E → Held S E → Type 0
Joins k slot payload old new = Gathers k slot payload old new ⊎ ReadsBase k payload old new

-- the first part has its gate at this offset
abbrev pub IsHere : ℕ → ℕ → List (List ℕ) → Type 0
IsHere start gate parts = parts ≡ [] → gate ≡ start

-- what became of a payload where a base is awaited at this slot, from this offset on
abbrev pub Awaits : {H S E R : Type 0} → StoreKind H S E R → ℕ → ℕ → ℕ → List ℕ → Held S E → Held S E → Type 0
Awaits k slot start gate payload old new = PassesOver slot start gate payload old new ⊎ (IsHere start gate old.parts × Joins k slot payload old new)

-- With this payload the parts neither go on nor are a snapshot that an opening takes.
abbrev pub IsNoPart : {H S E R : Type 0} → StoreKind H S E R → List ℕ → List (List ℕ) → Type 0
IsNoPart {S = S} k payload parts = (k.AreCutShort (parts ++ payload ∷ []) → ⊥) × ((T : S) (count : ℕ) → BeginWell k (parts ++ payload ∷ []) T count → ⊥)

-- No base is at this offset: the payload begins elsewhere and reaches behind it; or it is no part.
abbrev pub IsBaseless : {H S E R : Type 0} → StoreKind H S E R → ℕ → ℕ → List ℕ → List (List ℕ) → Type 0
IsBaseless k start gate payload parts =
    ((parts ≡ []) × (gate ≢ start) × (start < gate + need_of (length payload)))
    ⊎ (IsHere start gate parts × IsNoPart k payload parts)

-- A payload was taken.
abbrev pub TakesAt : {H S E R : Type 0} → StoreKind H S E R → Option ℕ → ℕ → S → List ℕ → ℕ → Held S E → Held S E → Type 0
TakesAt k None start T payload gate old new = TakesPayload k T payload old new
TakesAt k (Some slot) start T payload gate old new = Awaits k slot start gate payload old new

abbrev pub Takes : {H S E R : Type 0} → StoreKind H S E R → Slots → S → List ℕ → ℕ → Held S E → Held S E → Type 0
Takes k slots T payload gate old new = TakesAt k (awaited_slot k slots old.stage payload) (start_of slots) T payload gate old new

-- Why the payload at this gate isn't taken where no base is awaited: it is no part of a snapshot, and no record that is accepted; or it
-- is a record that is accepted, and has no room after the records so far.
abbrev pub IsRefused : {H S E R : Type 0} → StoreKind H S E R → S → List ℕ → ℕ → Held S E → FollowFault → Type 0
IsRefused k T payload gate old (fault.BadStream at) = (at ≡ gate) × (k.is_part payload ≡ false) × IsUnfit k T payload
IsRefused {E = E} k T payload gate old (fault.JournalFull need room) = (e : E) × k.IsRecordOf payload e × IsAccepted k T e × IsFull old.end (length old.entries) (length payload) need room
IsRefused k T payload gate old fault.NoMemory = ⊤

-- why a payload isn't a part of the base at this slot
abbrev pub IsUnjoined : {H S E R : Type 0} → StoreKind H S E R → ℕ → List ℕ → List (List ℕ) → FollowFault → Type 0
IsUnjoined k slot payload parts (fault.BadStream at) = (at ≡ slot) × IsNoPart k payload parts
IsUnjoined k slot payload parts (fault.JournalFull need room) = ⊥
IsUnjoined k slot payload parts fault.NoMemory = ⊤

-- and where one is awaited, at this slot
abbrev pub IsUnbased : {H S E R : Type 0} → StoreKind H S E R → ℕ → ℕ → List ℕ → ℕ → Held S E → FollowFault → Type 0
IsUnbased k slot start payload gate old (fault.BadStream at) = (at ≡ slot) × IsBaseless k start gate payload old.parts
IsUnbased k slot start payload gate old (fault.JournalFull need room) = ⊥
IsUnbased k slot start payload gate old fault.NoMemory = ⊤

abbrev pub IsUntakenAt : {H S E R : Type 0} → StoreKind H S E R → Option ℕ → ℕ → S → List ℕ → ℕ → Held S E → FollowFault → Type 0
IsUntakenAt k None start T payload gate old x = IsRefused k T payload gate old x
IsUntakenAt k (Some slot) start T payload gate old x = IsUnbased k slot start payload gate old x

abbrev pub IsUntaken : {H S E R : Type 0} → StoreKind H S E R → Slots → S → List ℕ → ℕ → Held S E → FollowFault → Type 0
IsUntaken k slots T payload gate old x = IsUntakenAt k (awaited_slot k slots old.stage payload) (start_of slots) T payload gate old x

-- What was taken before stays.
pub record StaysTaken {S E : Type 0} (old new : Held S E) : Type 0 where
  pub settled : old.stage ≡ stage.Settled → new.stage ≡ stage.Settled
  pub version : new.version ≡ old.version
  pub start : new.start ≡ old.start
  pub entries : new.entries ≡ old.entries

-- the same, where nothing but the record and its transaction was looked at
abbrev pub IsUnread : {H S E R : Type 0} → StoreKind H S E R → S → List ℕ → ℕ → FollowFault → Type 0
IsUnread k T payload gate (fault.BadStream at) = (at ≡ gate) × IsUnfit k T payload
IsUnread k T payload gate (fault.JournalFull need room) = ⊥
IsUnread k T payload gate fault.NoMemory = ⊤

-- the payload that was read last was taken, or it wasn't and this is the fault
abbrev pub AddsBy : {H S E R : Type 0} → StoreKind H S E R → S → Standing → Held S E → Held S E → Option FollowFault → Type 0
AddsBy k T s old new None = Takes k s.slots T (payload_of s.tail) s.gate old new
AddsBy k T s old new (Some x) = IsUntaken k s.slots T (payload_of s.tail) s.gate old x × StaysTaken old new

-- What became of the payload that was read last, at this state.
pub record Adds {H S E R : Type 0} (k : StoreKind H S E R) (T : S) (old new : Following S E) : Type 0 where
  pub standing : new.standing ≡ old.standing
  pub version : new.version ≡ old.version
  pub by : AddsBy k T old.standing (held_of old) (held_of new) new.fault

-- the first payload is a part of a snapshot, as far as its block is there: by its first byte, and where that is missing by a slot in use
-- that leads to it
abbrev pub may_be_part : {H S E R : Type 0} → StoreKind H S E R → List ℕ → Slots → Bool
may_be_part k block slots = if nat_le (length block) 5 then (start_of slots == 16) else k.is_part (drop 5 block)

-- the slot of a base that isn't whole
abbrev pub missing_slot : {H S E R : Type 0} → StoreKind H S E R → Stage → Slots → List ℕ → Option ℕ
missing_slot k stage.First slots block = if may_be_part k block slots then slot_in_use slots else None
missing_slot k (stage.Awaited slot) slots block = Some slot
missing_slot k stage.Settled slots block = None
