-- The bytes of a zone's stretches, both ways.
use Rattle.std.specs.Prelude.{◌≡◌, ℕ, ℤ, List, [], ◌∷◌, ◌++◌, Bool, true, ◌&&◌, Option, None, option_map, Ok}
use Rattle.std.specs.Int.{w32, w64}
use Rattle.qz_civil.specs.Timings.{is_timestamp}
use Rattle.qz_civil.specs.Zones.{is_offset, is_apart, bad_zone}
use Rattle.qz_civil.specs.declared.stretches.Stretch.{Stretch}
use Rattle.qz_values.specs.declared.versions.Version.{Version}
use Rattle.qz_values.specs.Fields.{integer, ◌>>=◌, Read, checked, integer_at}
use Rattle.qz_values.specs.Versions.{has_moment}

unfoldable pub stretch : Stretch → List ℕ
stretch s = integer w64 s.from ++ integer w32 s.offset

-- a record of this version may name the moments at which these begin
abbrev pub has_starts : Version → List Stretch → Bool
has_starts version [] = true
has_starts version (s ∷ rest) = has_moment version s.from && has_starts version rest

-- a zone's stretches
pub record IsTable (version : Version) (zs : List Stretch) : Type 0 where
  pub valid : bad_zone zs ≡ None
  pub starts : has_starts version zs ≡ true

-- a stretch begins there, right after one that begins at `before`
abbrev pub may_begin : Version → Option ℤ → ℤ → Bool
may_begin version before from = has_moment version from && (is_timestamp from && is_apart before from)

-- a stretch right after this one
unfoldable pub next_stretch_at : Version → Option Stretch → List ℕ → Read Stretch
next_stretch_at version before bytes = do
  from ← checked (may_begin version (option_map (λ s. s.from) before)) (integer_at w64) bytes
  offset ← checked is_offset (integer_at w32) from.1
  Ok (record { from = from.0; offset = offset.0 }, offset.1)
