-- A store that is read from the slot in use on.
use Rattle.std.specs.Prelude.{⊤, ◌≡◌, ◌≢◌, ◌⊎◌, Bool, true, false, ℕ, ◌+◌, ◌<◌, ◌≤◌, List, [], ◌∷◌, ◌++◌, length, take, drop, slice_index, All, Option, Some, None, unwrap_or}
use Rattle.qz_journal.specs.declared.errors.MountError.{MountError}
use Rattle.qz_journal.specs.declared.errors.MountError.TheVariants as mount
use Rattle.qz_journal.specs.declared.slots.Slots.{Slots}
use Rattle.qz_journal.specs.Layout.{HasHeader, IsHeader, IsPayload, open_gate, body_of, end_from, end_of}
use Rattle.qz_journal.specs.Opening.{EndsAt}
use Rattle.qz_journal.specs.Slots.{slots_of, slot_in_use, offset_in, number_at, IsHead}

-- where reading begins: at the offset of the slot in use, or at the first gate
abbrev pub start_at : Option ℕ → Slots → ℕ
start_at None s = 16
start_at (Some gate) s = unwrap_or (offset_in s gate) 16

abbrev pub start_of : Slots → ℕ
start_of s = start_at (slot_in_use s) s

-- After the header, these payloads stand from this offset on, and then a gate that is closed.
pub record IsTail (bytes : List ℕ) (version kind start : ℕ) (payloads : List (List ℕ)) : Type 0 where
  pub sizes : All IsPayload payloads
  pub header : IsHeader version kind (take 16 bytes)
  pub from : 16 ≤ start
  pub ends : EndsAt bytes start payloads true

-- So many payloads stand, where these are read. From a slot in use on, the first is a head, which says how many come before.
abbrev pub IsCounted : Option ℕ → ℕ → List (List ℕ) → Type 0
IsCounted None count payloads = count ≡ length payloads
IsCounted (Some gate) count [] = ⊥
IsCounted (Some gate) count (head ∷ payloads) = IsHead head × (count ≡ number_at 1 head + length (head ∷ payloads))

-- Those that were read are the last of these payloads, and gate and count are those of all.
pub record IsRest (payloads rest : List (List ℕ)) (start gate count : ℕ) : Type 0 where
  pub before : List (List ℕ)
  pub parts : payloads ≡ before ++ rest
  pub start_is : start ≡ end_of before
  pub gate_is : gate ≡ end_of payloads
  pub count_is : count ≡ length payloads

-- an open gate, and a whole payload that is no head
pub record BeginsOtherwise (tail : List ℕ) : Type 0 where
  pub payload : List ℕ
  pub rest : List ℕ
  pub size : IsPayload payload
  pub whole : tail ≡ open_gate ∷ (body_of payload ++ rest)
  pub no_head : IsHead payload → ⊥

-- no head can be read at this offset: it is before the first gate or not before the end, no open gate stands there, or a
-- payload does that is no head
abbrev pub IsAstray : List ℕ → ℕ → Type 0
IsAstray bytes start = ((start < 16) ⊎ (length bytes ≤ start)) ⊎ ((slice_index bytes start ≢ open_gate) ⊎ BeginsOtherwise (drop start bytes))

-- The slot in use, whose gate is at this place, leads to no head.
pub record IsMisled (bytes : List ℕ) (s : Slots) (at : ℕ) : Type 0 where
  pub in_use : slot_in_use s ≡ Some at
  pub astray : IsAstray bytes (start_of s)

-- After the blocks of these payloads, which stand from the right offset on, the gate is missing, or it is open and what
-- follows it is cut. Then the slot in use doesn't lead astray.
pub record IsDamagedTail (bytes : List ℕ) (payloads : List (List ℕ)) (at : ℕ) : Type 0 where
  pub sizes : All IsPayload payloads
  pub ends : EndsAt bytes (start_of (slots_of bytes)) payloads false
  pub at_is : at ≡ end_from (start_of (slots_of bytes)) payloads
  pub led : (gate : ℕ) → IsMisled bytes (slots_of bytes) gate → ⊥

-- why an opening of a tail is refused, with the payloads that stand before a bad place
abbrev pub IsTailRefused : List ℕ → ℕ → List (List ℕ) → MountError → Type 0
IsTailRefused bytes kind payloads mount.NotAStore = HasHeader kind bytes → ⊥
IsTailRefused bytes kind payloads (mount.Damaged at) = HasHeader kind bytes × (IsMisled bytes (slots_of bytes) at ⊎ IsDamagedTail bytes payloads at)
IsTailRefused bytes kind payloads mount.Fault = ⊤
IsTailRefused bytes kind payloads mount.NoMemory = ⊤

-- from a slot in use on, the first payload is a head, unless even that one is cut
abbrev pub IsLed : Option ℕ → List (List ℕ) → Bool → Type 0
IsLed None payloads is_whole = ⊤
IsLed (Some gate) [] is_whole = is_whole ≡ false
IsLed (Some gate) (head ∷ payloads) is_whole = IsHead head

-- it is none, or a closed gate stands there
abbrev pub HasNoHead : List (List ℕ) → Bool → Type 0
HasNoHead [] is_whole = is_whole ≡ true
HasNoHead (head ∷ payloads) is_whole = IsHead head → ⊥
