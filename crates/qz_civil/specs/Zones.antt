-- Local time: a zone is a list of stretches, each with its first timestamp and its offset in seconds.
use Rattle.std.specs.Prelude.{◌≡◌, ℕ, ◌+◌, ◌-◌, ◌<◌, Bool, true, not, nat_lt, int_le, if◌then◌else◌, ℤ, pos, neg_ℤ, ◌+ℤ◌, ◌*ℤ◌, ◌≤ℤ◌, ◌<ℤ◌, unsigned_abs, List, [], ◌∷◌, length, Option, Some, None, slice_get, option_map}
use Rattle.std.specs.List.{prefix_len}
use Rattle.qz_civil.specs.declared.dates.Civil.{Civil}
use Rattle.qz_civil.specs.declared.limits.TheConstants.{DAY_MS, OFFSET_LIMIT, STRETCH_LENGTH, STRETCH_LIMIT}
use Rattle.qz_civil.specs.declared.stretches.BadZone.{BadZone}
use Rattle.qz_civil.specs.declared.stretches.BadZone.TheVariants.{Empty, NotAscending, OffsetOutOfRange, FromOutOfRange, TooManyStretches}
use Rattle.qz_civil.specs.declared.stretches.Stretch.{Stretch}
use Rattle.qz_civil.specs.declared.zones.Offsets.{Offsets}
use Rattle.qz_civil.specs.declared.zones.Offsets.TheVariants.{Fixed, Table}
use Rattle.qz_civil.specs.Dates.{civil_of}
use Rattle.qz_civil.specs.Timings.{is_within, is_timestamp}

-- The stretches of a zone.

-- at most 18 hours on either side, in seconds
abbrev pub is_offset : ℤ → Bool
is_offset z = is_within (neg_ℤ OFFSET_LIMIT) OFFSET_LIMIT z

-- the stretch begins far enough after the one before
abbrev pub is_apart : Option ℤ → ℤ → Bool
is_apart None from = true
is_apart (Some before) from = int_le (before +ℤ STRETCH_LENGTH) from

-- the first fault of the stretches from place i on, where the one before them begins at `before`
abbrev pub bad_place : ℕ → Option ℤ → List Stretch → Option BadZone
bad_place i before [] = None
bad_place i before (s ∷ rest) =
    if not (is_timestamp s.from) then Some (FromOutOfRange i)
    else (if not (is_offset s.offset) then Some (OffsetOutOfRange i)
    else (if not (is_apart before s.from) then Some (NotAscending i)
    else bad_place (i + 1) (Some s.from) rest))

-- why the list is no table of a zone
unfoldable pub bad_zone : List Stretch → Option BadZone
bad_zone [] = Some Empty
bad_zone (s ∷ rest) =
    if nat_lt STRETCH_LIMIT (length (s ∷ rest)) then Some (TooManyStretches (length (s ∷ rest)))
    else bad_place 0 None (s ∷ rest)

-- the one stretch of a fixed offset
abbrev pub fixed_offset : ℤ → List Stretch
fixed_offset offset = record { from = pos 0; offset = offset } ∷ []

-- the stretches of a zone
abbrev pub stretches_of : Offsets → List Stretch
stretches_of (Fixed only) = only
stretches_of (Table zs) = zs

-- Local time.

-- how many stretches have begun at t
unfoldable pub begun : List Stretch → ℤ → ℕ
begun zs t = prefix_len (λ s. int_le s.from t) zs

-- the place of the last of them, and of the first stretch where none has begun
abbrev pub stretch_at : List Stretch → ℤ → ℕ
stretch_at zs t = begun zs t - 1

-- the stretch's offset, and 0 where there is none
abbrev pub offset_of : Option Stretch → ℤ
offset_of None = pos 0
offset_of (Some s) = s.offset

-- when the next stretch after t begins
abbrev pub next_start : List Stretch → ℤ → Option ℤ
next_start zs t = option_map (λ s. s.from) (slice_get zs (begun zs t))

-- local time less UTC at t, in seconds
abbrev pub offset_at : List Stretch → ℤ → ℤ
offset_at zs t = offset_of (slice_get zs (stretch_at zs t))

-- the local clock at t, in ms since 1969-12-31T00:00:00; where t is 0 or later, no clock shows less
abbrev pub local : List Stretch → ℤ → ℕ
local zs t = unsigned_abs (t +ℤ pos DAY_MS +ℤ offset_at zs t *ℤ pos 1000)

-- the local date and time of day at t
abbrev pub civil : List Stretch → ℤ → Civil
civil zs t = civil_of (local zs t)

-- the place is that of the last stretch that has begun at t, or of the first where none has
pub record IsLastBegun (zs : List Stretch) (t : ℤ) (place : ℕ) : Type 0 where
  pub within : place < length zs
  pub begins : (s : Stretch) → slice_get zs place ≡ Some s → 0 < place → s.from ≤ℤ t
  pub later : (k : ℕ) (s : Stretch) → place < k → slice_get zs k ≡ Some s → t <ℤ s.from
