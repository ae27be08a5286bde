-- The first bytes of a trigger store.
use Rattle.std.specs.Prelude.{◌≡◌, ℕ, ◌<◌, ◌≤◌, true, Option, Some, None, List, length, slice_index}
use Rattle.qz_journal.specs.Layout.{front_of, is_version}
use Rattle.qz_journal.specs.declared.layout.TheConstants.{TRIGGERS}

-- A trigger store, in a version that is read, has this byte at this offset, one of the first six.
abbrev pub IsFrontByte : ℕ → ℕ → Type 0
IsFrontByte at byte = (version : ℕ) × (is_version version ≡ true) × (slice_index (front_of version TRIGGERS) at ≡ byte)

-- The bytes before this offset, as far as they are there, are those of a trigger store. The offset is at most 6.
abbrev pub IsFrontBelow : ℕ → List ℕ → Type 0
IsFrontBelow end bytes = (at : ℕ) → at < end → at < length bytes → IsFrontByte at (slice_index bytes at)

-- A trigger store may begin with these bytes: of the first six, those that are there are right.
abbrev pub MayBegin : List ℕ → Type 0
MayBegin bytes = IsFrontBelow 6 bytes

-- The byte at this offset, one of the first six, is the first that no trigger store has there.
pub record IsBadFront (bytes : List ℕ) (at : ℕ) : Type 0 where
  pub early : at < 6
  pub there : at < length bytes
  pub before : IsFrontBelow at bytes
  pub bad : IsFrontByte at (slice_index bytes at) → ⊥

-- the version: the fifth byte, where it and those before it are there and right
abbrev pub IsVersionOf : List ℕ → Option ℕ → Type 0
IsVersionOf bytes None = 5 ≤ length bytes → IsFrontBelow 5 bytes → ⊥
IsVersionOf bytes (Some version) = (5 ≤ length bytes) × IsFrontBelow 5 bytes × (slice_index bytes 4 ≡ version)
