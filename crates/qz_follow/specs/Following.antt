-- What a follower of a trigger store has taken of its bytes.
use Rattle.std.specs.Prelude.{◌≡◌, ℕ, List, ◌++◌, Option, None, Some}
use Rattle.qz_types.specs.Entries.{EntryData}
use Rattle.qz_types.specs.Tables.{SchedulerTables}
use Rattle.qz_stream.specs.Standing.{Standing, header_length_of}
use Rattle.qz_stream.specs.declared.place.Place.TheVariants as place
use Rattle.qz_trigger_store.specs.Bytes.{Whole}
use Rattle.qz_trigger_store.specs.Kinds.{trigger_kind}
use Rattle.qz_follow.specs.Payloads as any
use Rattle.qz_follow.specs.Taking.{missing_slot}
use Rattle.qz_follow.specs.declared.faults.FollowFault.{FollowFault}
use Rattle.qz_follow.specs.declared.stages.Stage.TheVariants as stage

abbrev pub Following : Type 0
Following = any.Following SchedulerTables EntryData

-- What is taken of the bytes of a store of this version: the entries of all whole record payloads before the first gate that isn't open,
-- from these tables on, which are those of a new store or of the bytes' base.
abbrev pub HasTaken : ℕ → List ℕ → SchedulerTables → List EntryData → Type 0
HasTaken version bytes start entries = any.HasTaken trigger_kind version bytes start entries

-- A store of these bytes can be followed: it starts as a new store does, or with a snapshot, to which the slot in use leads.
abbrev pub IsFollowable : Whole → List ℕ → Type 0
IsFollowable w bytes = any.IsFollowable trigger_kind w.version w.start bytes

-- The bytes of a store of this version have this fault first, behind payloads of these entries, from this start on.
abbrev pub IsFault : ℕ → List ℕ → SchedulerTables → List EntryData → FollowFault → Type 0
IsFault version bytes start entries x = any.IsFault trigger_kind version bytes start entries x

-- After these bytes were fed, in whatever pieces, a follower may stand so.
abbrev pub IsFollowed : List ℕ → Following → Type 0
IsFollowed fed f = any.IsFollowed trigger_kind fed f

-- These bytes more were fed.
abbrev pub Follows : List ℕ → Following → Following → Type 0
Follows bytes old new = (fed : List ℕ) → IsFollowed fed old → IsFollowed (fed ++ bytes) new

-- All entries are kept, and some may be added. Once it is settled what they begin with, that stays.
pub record Keeps (old new : Following) : Type 0 where
  pub more : List EntryData
  pub entries : new.entries ≡ old.entries ++ more
  pub start : old.stage ≡ stage.Settled → (new.stage ≡ stage.Settled) × (new.start ≡ old.start)

-- The stream has ended at a gate that isn't open, with no fault before it.
abbrev pub IsEnded : Following → Type 0
IsEnded f = (f.fault ≡ None) × (f.standing.place ≡ place.Ended)

-- this length of a header that isn't whole, or this slot
abbrev pub length_or : Option ℕ → Option ℕ → Option ℕ
length_or None slot = slot
length_or (Some length) slot = Some length

-- Why nothing can be made of what was fed: so many bytes are there of its header, which isn't whole; or it has a base that isn't whole, and
-- this is the gate of the slot that leads to it.
abbrev pub short_at : Following → Option ℕ
short_at f = length_or (header_length_of f.standing) (missing_slot trigger_kind f.stage f.standing.slots f.standing.tail)
