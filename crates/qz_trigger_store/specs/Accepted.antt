-- What a store keeps of the entries that it accepted.
use Rattle.std.specs.Prelude.{◌≡◌, ◌<◌, ℤ, [], ◌∷◌, ◌++◌, Option, Some, None}
use Rattle.qz_types.specs.Entries.{EntryData}
use Rattle.qz_types.specs.declared.replies.Reply.{Reply}
use Rattle.qz_trigger_store.specs.declared.accepted.Accepted.{Accepted}

-- each list takes one item more without memory
pub record HasRoomForOne (a : Accepted) : Type 0 where
  pub entries : 0 < a.entries.room
  pub moments : 0 < a.moments.room
  pub replies : 0 < a.replies.room

-- the items are the same, whatever the room
pub record SameItems (a b : Accepted) : Type 0 where
  pub entries : b.entries.items ≡ a.entries.items
  pub moments : b.moments.items ≡ a.moments.items
  pub replies : b.replies.items ≡ a.replies.items

-- the entry, its moment and its reply came last
pub record HasOneMore (a b : Accepted) (e : EntryData) (m : ℤ) (r : Reply) : Type 0 where
  pub entries : b.entries.items ≡ a.entries.items ++ e ∷ []
  pub moments : b.moments.items ≡ a.moments.items ++ m ∷ []
  pub replies : b.replies.items ≡ a.replies.items ++ r ∷ []

-- the same, where a store keeps what it accepts
abbrev pub IsKept : Option Accepted → Option Accepted → EntryData → ℤ → Reply → Type 0
IsKept None now e m r = now ≡ None
IsKept (Some a) now e m r = (b : Accepted) × (now ≡ Some b) × HasOneMore a b e m r
