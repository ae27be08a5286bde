-- The two slots of a store's header. Each has a gate, and four bytes with an offset after it.
use Rattle.std.specs.Prelude.{◌≡◌, ◌⊎◌, ℕ, ◌+◌, ◌≤◌, List, ◌∷◌, ◌++◌, length, take, drop, slice_index, Option, Some, None, nat_lt, if◌then◌else◌, ◌==◌}
use Rattle.std.specs.Int.{w32, from_be_bytes}
use Rattle.qz_journal.specs.declared.slots.Slots.{Slots}
use Rattle.qz_journal.specs.Layout.{open_gate, end_of}

-- the place of the gate of slot A, or of B
abbrev pub IsSlot : ℕ → Type 0
IsSlot gate = (gate ≡ 6) ⊎ (gate ≡ 11)

abbrev pub other_slot : ℕ → ℕ
other_slot gate = if gate == 6 then 11 else 6

-- the number that the four bytes from this place on are
abbrev pub number_at : ℕ → List ℕ → ℕ
number_at at bytes = from_be_bytes w32 (take 4 (drop at bytes))

-- the offset of the slot whose gate is at this place, if the gate is open
unfoldable pub slot : ℕ → List ℕ → Option ℕ
slot gate bytes = if slice_index bytes gate == open_gate then Some (number_at (gate + 1) bytes) else None

-- both slots of these bytes
abbrev pub slots_of : List ℕ → Slots
slots_of bytes = record { a = slot 6 bytes; b = slot 11 bytes }

-- the gate of the slot in use: of the open ones that with the greater offset, A if they are equal
abbrev pub gate_of_greater : Option ℕ → Option ℕ → Option ℕ
gate_of_greater None None = None
gate_of_greater (Some a) None = Some 6
gate_of_greater None (Some b) = Some 11
gate_of_greater (Some a) (Some b) = if nat_lt a b then Some 11 else Some 6

abbrev pub slot_in_use : Slots → Option ℕ
slot_in_use s = gate_of_greater s.a s.b

-- the gate of the slot that isn't in use, A where none is
abbrev pub other_than : Option ℕ → ℕ
other_than None = 6
other_than (Some gate) = other_slot gate

abbrev pub free_slot : Slots → ℕ
free_slot s = other_than (slot_in_use s)

-- the offset of the slot whose gate is at this place
abbrev pub offset_in : Slots → ℕ → Option ℕ
offset_in s gate = if gate == 6 then s.a else s.b

-- the slots with this offset, or none, in the one whose gate is at this place
abbrev pub with_offset : ℕ → Option ℕ → Slots → Slots
with_offset gate offset s = if gate == 6 then record { a = offset; b = s.b } else record { a = s.a; b = offset }

-- What a write to one slot may leave, whole or torn: all other bytes are as they were, and this slot is closed or has this
-- offset.
pub record IsSlotWrite (gate : ℕ) (offset : Option ℕ) (old new : List ℕ) : Type 0 where
  pub front : take 6 new ≡ take 6 old
  pub behind : drop 16 new ≡ drop 16 old
  pub same_length : length new ≡ length old
  pub other : slot (other_slot gate) new ≡ slot (other_slot gate) old
  pub this : (slot gate new ≡ None) ⊎ (slot gate new ≡ offset)

-- a payload that begins a snapshot: F0, and four bytes with the number of payloads before it
abbrev pub IsHead : List ℕ → Type 0
IsHead payload = (5 ≤ length payload) × (slice_index payload 0 ≡ 240)

-- Some of these payloads end at this offset, and the next one is a head that tells how many they are.
pub record IsTrueOffset (payloads : List (List ℕ)) (offset : ℕ) : Type 0 where
  pub before : List (List ℕ)
  pub head : List ℕ
  pub after : List (List ℕ)
  pub parts : payloads ≡ before ++ head ∷ after
  pub offset_is : offset ≡ end_of before
  pub is_head : IsHead head
  pub number_is : number_at 1 head ≡ length before

-- The offset of each open slot of these bytes is true of the payloads. (An offset that was damaged may lead into a payload,
-- in which other blocks seem to stand.)
abbrev pub HasTrueSlots : List ℕ → List (List ℕ) → Type 0
HasTrueSlots bytes payloads = (gate offset : ℕ) → IsSlot gate → slot gate bytes ≡ Some offset → IsTrueOffset payloads offset
