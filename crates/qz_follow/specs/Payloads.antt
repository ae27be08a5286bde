-- What the bytes of a store have that was taken, and what is wrong with them, whatever its kind is.
use Rattle.std.specs.Prelude.{⊤, ◌≡◌, ◌≢◌, ◌⊎◌, ℕ, ◌<◌, ◌≤◌, true, false, List, [], ◌∷◌, ◌++◌, length, Option, Some, None, if◌then◌else◌}
use Rattle.qz_journal.specs.Commits.{IsFull, HaveRoom}
use Rattle.qz_journal.specs.Layout.{Holds, end_of}
use Rattle.qz_journal.specs.Slots.{slots_of, slot_in_use}
use Rattle.qz_journal.specs.Tails.{start_at, start_of}
use Rattle.qz_journal.specs.declared.slots.Slots.{Slots}
use Rattle.qz_stores.specs.Bases.{records, RecordEntries}
use Rattle.qz_stores.specs.Kinds.{StoreKind, IsAccepted}
use Rattle.qz_stores.specs.Opening.{AreTaken as AreReplayed, BeginWell, IsBase, IsUnfit}
use Rattle.qz_stream.specs.Blocks.{Splits, AreTaken, AreWithin, IsBadPlace}
use Rattle.qz_stream.specs.Front.{IsVersionOf}
use Rattle.qz_stream.specs.Standing.{Standing, IsAfter}
use Rattle.qz_stream.specs.declared.place.Place.TheVariants as place
use Rattle.qz_follow.specs.declared.faults.FollowFault.{FollowFault}
use Rattle.qz_follow.specs.declared.faults.FollowFault.TheVariants as fault
use Rattle.qz_follow.specs.declared.stages.Stage.{Stage}
use Rattle.qz_follow.specs.declared.stages.Stage.TheVariants as stage

-- the slot at which payloads have a base: the one in use, where the first of them is a part of a snapshot
abbrev pub base_slot : {H S E R : Type 0} → StoreKind H S E R → Slots → List (List ℕ) → Option ℕ
base_slot k slots [] = None
base_slot k slots (payload ∷ more) = if k.is_part payload then slot_in_use slots else None

-- Of these payloads those are the last, and the first of them has its gate at this offset.
pub record AreFrom (offset : ℕ) (payloads from : List (List ℕ)) : Type 0 where
  pub before : List (List ℕ)
  pub parts : payloads ≡ before ++ from
  pub offset_is : offset ≡ end_of before

-- What payloads are read from, and with which start, is what an opening says: those from the slot of their base on, with the state of
-- the snapshot there; or all of them, with that of a new store, where they have no base.
pub record BeginFrom {H S E R : Type 0} (k : StoreKind H S E R) (version : ℕ) (slots : Slots) (payloads from : List (List ℕ)) (start : S) : Type 0 where
  pub are_from : AreFrom (start_at (base_slot k slots payloads) slots) payloads from
  pub count : ℕ
  pub base : IsBase k (base_slot k slots payloads) version from start count

-- They are read: they are records of these entries, which are accepted one by one from this start on, and parts of snapshots, which are
-- passed over. A store has room for the records, which end at this offset in one that has them alone.
pub record AreRead {H S E R : Type 0} (k : StoreKind H S E R) (version : ℕ) (slots : Slots) (payloads : List (List ℕ)) (start : S) (entries : List E) (end : ℕ) : Type 0 where
  pub from : List (List ℕ)
  pub begin : BeginFrom k version slots payloads from start
  pub taken : AreReplayed k start from entries
  pub room : HaveRoom (records k from) 16 0
  pub end_is : end ≡ end_of (records k from)

-- The base of these payloads, at this slot, isn't whole: they don't reach behind its slot's offset; or those from there on are these parts of its
-- snapshot, which goes on.
pub record AwaitBase {H S E R : Type 0} (k : StoreKind H S E R) (slots : Slots) (payloads parts : List (List ℕ)) (slot : ℕ) : Type 0 where
  pub in_use : base_slot k slots payloads ≡ Some slot
  pub short : ((parts ≡ []) × (end_of payloads ≤ start_of slots)) ⊎ (AreFrom (start_of slots) payloads parts × k.AreCutShort parts)

-- No snapshot that an opening takes is the base of these payloads, whatever follows: they reach behind the offset of its slot, and
-- none of them has its gate there, or those from there on neither begin with such a snapshot nor go on.
pub record LackBase {H S E R : Type 0} (k : StoreKind H S E R) (slots : Slots) (payloads : List (List ℕ)) (slot : ℕ) : Type 0 where
  pub in_use : base_slot k slots payloads ≡ Some slot
  pub behind : start_of slots < end_of payloads
  pub none : (from : List (List ℕ)) → AreFrom (start_of slots) payloads from → (k.AreCutShort from → ⊥) × ((T : S) (count : ℕ) → BeginWell k from T count → ⊥)

-- Their base isn't whole, and so there is nothing but a new store.
pub record AreAwaited {H S E R : Type 0} (k : StoreKind H S E R) (version : ℕ) (slots : Slots) (payloads : List (List ℕ)) (start : S) (entries : List E) : Type 0 where
  pub slot : ℕ
  pub parts : List (List ℕ)
  pub base : AwaitBase k slots payloads parts slot
  pub start_is : start ≡ k.empty version
  pub none : entries ≡ []

-- Payloads have no fault, and lead to this start and these entries.
abbrev pub AreSound : {H S E R : Type 0} → StoreKind H S E R → ℕ → Slots → List (List ℕ) → S → List E → Type 0
AreSound k version slots payloads start entries = ((end : ℕ) × AreRead k version slots payloads start entries end) ⊎ AreAwaited k version slots payloads start entries

-- These are the entries of payloads, whether they are accepted or not, and what they begin with.
abbrev pub HaveEntries : {H S E R : Type 0} → StoreKind H S E R → ℕ → Slots → List (List ℕ) → S → List E → Type 0
HaveEntries k version slots payloads start entries =
    ((from : List (List ℕ)) × BeginFrom k version slots payloads from start × RecordEntries k from entries) ⊎ AreAwaited k version slots payloads start entries

-- What is taken of the bytes of a store of this version: the entries of all whole record payloads before the first gate that isn't
-- open, from this start on. That is a new store, or the tables of the bytes' base; then the records before it are left out.
pub record HasTaken {H S E R : Type 0} (k : StoreKind H S E R) (version : ℕ) (bytes : List ℕ) (start : S) (entries : List E) : Type 0 where
  pub payloads : List (List ℕ)
  pub whole : AreTaken bytes payloads
  pub have : HaveEntries k version (slots_of bytes) payloads start entries

-- A store of these bytes can be followed: it starts as a new store does, or with a snapshot, to which the slot in use leads.
abbrev pub IsFollowable : {H S E R : Type 0} → StoreKind H S E R → ℕ → S → List ℕ → Type 0
IsFollowable k version start bytes = (start ≡ k.empty version) ⊎ ((payloads : List (List ℕ)) × (slot : ℕ) × Holds bytes version k.number payloads × (base_slot k (slots_of bytes) payloads ≡ Some slot))

-- After these payloads the bytes have this one, whole.
pub record HasNext (bytes : List ℕ) (before : List (List ℕ)) (payload : List ℕ) : Type 0 where
  pub tail : List ℕ
  pub splits : Splits bytes (before ++ payload ∷ []) tail
  pub within : AreWithin (before ++ payload ∷ [])

-- After payloads without a fault stands the first bad place of the bytes: one of the first six bytes, or a gate whose payload
-- may not follow.
pub record IsBadAt {H S E R : Type 0} (k : StoreKind H S E R) (version : ℕ) (bytes : List ℕ) (start : S) (entries : List E) (at : ℕ) : Type 0 where
  pub before : List (List ℕ)
  pub bad : IsBadPlace bytes before at
  pub sound : AreSound k version (slots_of bytes) before start entries

-- After payloads without a fault, whose base is whole if they have one, stands one at this gate that is no part of a snapshot, and
-- no record of an entry that is accepted.
pub record IsUnfitAt {H S E R : Type 0} (k : StoreKind H S E R) (version : ℕ) (bytes : List ℕ) (start : S) (entries : List E) (at : ℕ) : Type 0 where
  pub before : List (List ℕ)
  pub payload : List ℕ
  pub next : HasNext bytes before payload
  pub end : ℕ
  pub read : AreRead k version (slots_of bytes) before start entries end
  pub at_is : at ≡ end_of before
  pub no_part : k.is_part payload ≡ false
  pub unfit : IsUnfit k (k.replay_from start entries) payload

-- Payloads of the bytes have a slot in use, whose gate is here, and no base there.
pub record IsBaselessAt {H S E R : Type 0} (k : StoreKind H S E R) (version : ℕ) (bytes : List ℕ) (start : S) (entries : List E) (at : ℕ) : Type 0 where
  pub payloads : List (List ℕ)
  pub tail : List ℕ
  pub splits : Splits bytes payloads tail
  pub within : AreWithin payloads
  pub lack : LackBase k (slots_of bytes) payloads at
  pub start_is : start ≡ k.empty version
  pub none : entries ≡ []

-- After payloads without a fault, whose base is whole if they have one, stands a record that is accepted, and a store has no room for
-- it behind their records.
pub record IsFullAt {H S E R : Type 0} (k : StoreKind H S E R) (version : ℕ) (bytes : List ℕ) (start : S) (entries : List E) (need room : ℕ) : Type 0 where
  pub before : List (List ℕ)
  pub payload : List ℕ
  pub next : HasNext bytes before payload
  pub end : ℕ
  pub read : AreRead k version (slots_of bytes) before start entries end
  pub entry : E
  pub is_record : k.IsRecordOf payload entry
  pub accepted : IsAccepted k (k.replay_from start entries) entry
  pub full : IsFull end (length entries) (length payload) need room

-- After payloads without a fault stands one for which memory was wanted.
pub record IsWanting {H S E R : Type 0} (k : StoreKind H S E R) (version : ℕ) (bytes : List ℕ) (start : S) (entries : List E) : Type 0 where
  pub before : List (List ℕ)
  pub payload : List ℕ
  pub next : HasNext bytes before payload
  pub sound : AreSound k version (slots_of bytes) before start entries

-- The bytes of a store of this version have this fault first, behind payloads of these entries, from this start on.
abbrev pub IsFault : {H S E R : Type 0} → StoreKind H S E R → ℕ → List ℕ → S → List E → FollowFault → Type 0
IsFault k version bytes start entries (fault.BadStream at) = IsBadAt k version bytes start entries at ⊎ (IsUnfitAt k version bytes start entries at ⊎ IsBaselessAt k version bytes start entries at)
IsFault k version bytes start entries (fault.JournalFull need room) = IsFullAt k version bytes start entries need room
IsFault k version bytes start entries fault.NoMemory = IsWanting k version bytes start entries

-- What was taken of payloads: the version of the store; how far the follower has come with its base, and the parts of it that are
-- there; what the entries begin with; the entries; and the offset after their records, in a store that has them alone.
pub record Held (S E : Type 0) : Type 0 where
  pub version : ℕ
  pub stage : Stage
  pub parts : List (List ℕ)
  pub start : S
  pub entries : List E
  pub end : ℕ

-- What a follower keeps: where its reader stands; what was taken; and the fault that it met.
pub record Following (S E : Type 0) : Type 0 where
  pub standing : Standing
  pub version : ℕ
  pub stage : Stage
  pub parts : List (List ℕ)
  pub start : S
  pub entries : List E
  pub end : ℕ
  pub fault : Option FollowFault

-- what it has taken
abbrev pub held_of : {S E : Type 0} → Following S E → Held S E
held_of f = record { version = f.version; stage = f.stage; parts = f.parts; start = f.start; entries = f.entries; end = f.end }

-- These payloads were taken.
abbrev pub HasCome : {H S E R : Type 0} → StoreKind H S E R → Slots → List (List ℕ) → Stage → Held S E → Type 0
HasCome k slots payloads stage.First h = (payloads ≡ []) × (h.parts ≡ []) × (h.start ≡ k.empty h.version) × (h.entries ≡ []) × (h.end ≡ 16)
HasCome k slots payloads (stage.Awaited slot) h = AwaitBase k slots payloads h.parts slot × (h.start ≡ k.empty h.version) × (h.entries ≡ []) × (h.end ≡ 16)
HasCome k slots payloads stage.Settled h = (payloads ≢ []) × AreRead k h.version slots payloads h.start h.entries h.end

-- the version that the bytes say, and 2 where their first five aren't all there and right
abbrev pub version_or_two : Option ℕ → ℕ
version_or_two None = 2
version_or_two (Some version) = version

-- All whole payloads of these bytes were taken, and nothing is wrong with the bytes so far.
pub record IsFine {H S E R : Type 0} (k : StoreKind H S E R) (fed : List ℕ) (f : Following S E) : Type 0 where
  pub payloads : List (List ℕ)
  pub after : IsAfter fed payloads f.standing
  pub good : f.standing.place ≢ place.Bad
  pub come : HasCome k (slots_of fed) payloads f.stage (held_of f)

-- The payloads before its first fault were taken.
pub record IsStuck {H S E R : Type 0} (k : StoreKind H S E R) (fed : List ℕ) (f : Following S E) (x : FollowFault) : Type 0 where
  pub first : IsFault k f.version fed f.start f.entries x
  pub headed : f.standing.place ≢ place.Header

abbrev pub StandsBy : {H S E R : Type 0} → StoreKind H S E R → Option FollowFault → List ℕ → Following S E → Type 0
StandsBy k None fed f = IsFine k fed f
StandsBy k (Some x) fed f = IsStuck k fed f x

-- After these bytes were fed, in whatever pieces, a follower may stand so.
pub record IsFollowed {H S E R : Type 0} (k : StoreKind H S E R) (fed : List ℕ) (f : Following S E) : Type 0 where
  pub told : Option ℕ
  pub version : IsVersionOf fed told
  pub version_is : f.version ≡ version_or_two told
  pub stands : StandsBy k f.fault fed f

-- A fault that is seen in the bytes. (That memory was wanted isn't.)
abbrev pub IsSeen : FollowFault → Type 0
IsSeen (fault.BadStream at) = ⊤
IsSeen (fault.JournalFull need room) = ⊤
IsSeen fault.NoMemory = ⊥
