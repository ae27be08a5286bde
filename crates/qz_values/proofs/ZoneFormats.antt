-- Tables of zones: each that is valid is written and read so, and none else is read.
use Rattle.std.proofs.Common.{◌≡◌, ℕ, ◌+◌, ℤ, Bool, true, ◌&&◌, List, [], ◌∷◌, Option, None, Some, refl, arith}
use Rattle.std.specs.Prelude.{FitsSigned, option_map}
use Rattle.std.specs.Int.{w32, w64}
use Rattle.std.proofs.lemmas.Int.{ints}
use Rattle.qz_civil.specs.declared.limits.TheConstants.{STRETCH_LIMIT}
use Rattle.qz_civil.specs.declared.stretches.Stretch.{Stretch}
use Rattle.qz_civil.specs.Timings.{is_timestamp}
use Rattle.qz_civil.specs.Zones.{is_apart, is_offset, bad_place, bad_zone}
use Rattle.qz_values.specs.declared.versions.Version.{Version}
use Rattle.qz_values.specs.declared.versions.Version.TheVariants.{Two}
use Rattle.qz_values.specs.Fields.{integer, IsNumber, checked, integer_at}
use Rattle.qz_values.specs.Versions.{has_moment}
use Rattle.qz_values.specs.Lists.{list, list_at}
use Rattle.qz_values.specs.Zones.{stretch, has_starts, IsTable, may_begin, next_stretch_at}
use Rattle.qz_values.specs.Formats.{IsFormat, Any}
use Rattle.qz_values.proofs.Formats.{Also, field, last, same, those}
use Rattle.qz_values.proofs.SingleFields.{wide32, same32, integer_format}
use Rattle.qz_values.proofs.NameFormats.{tested}
use Rattle.qz_values.proofs.ListFormats.{AreItems, IsList, list_format}
use Rattle.qz_values.proofs.Truths.{parts_true}

-- ---- stretches

abbrev start : Option Stretch → Option ℤ
start before = option_map (λ s. s.from) before

-- a stretch right after this one
pub record IsNext (version : Version) (before : Option Stretch) (s : Stretch) : Type 0 where
  pub from : IsNumber w64 (may_begin version (start before)) s.from
  pub offset : IsNumber w32 is_offset s.offset

offset_format : IsFormat (integer w32) Any (IsNumber w32 is_offset) (checked is_offset (integer_at w32)) 4
offset_format = same (those is_offset (integer_format wide32 same32)) (λ z k. refl) (λ z k p. record { fits = p.fits; passed = p.passed }) (λ z k p. record { fits = p.fits; passed = p.passed })

next_format : (version : Version) (before : Option Stretch) → IsFormat stretch Any (IsNext version before) (next_stretch_at version before) 12
unfolding stretch next_stretch_at
next_format version before = same {write' = stretch} {Is' = IsNext version before}
    (field (λ (s : Stretch). Unit {0}) (λ (s : Stretch). s.from) (tested (may_begin version (start before))) (λ from.
    last (λ (s : Stretch). Also (Unit {0}) (s.from ≡ from)) (λ (s : Stretch). s.offset) offset_format (λ offset. record { from = from; offset = offset }) (λ offset. record { before = tt; now = refl }) (λ offset. refl) (λ s h. rw (← h.now) refl)))
    (λ s h. refl) (λ s h p. record { from = p.first; offset = p.others }) (λ s h p. record { first = p.from; others = p.offset })

-- ---- tables

-- right after the one before, whichever the version
abbrev may_follow : Option ℤ → ℤ → Bool
may_follow before from = is_timestamp from && is_apart before from

begin_fits : (before : Option ℤ) (z : ℤ) → may_follow before z ≡ true → FitsSigned w64 z
begin_fits before z h = grind (arith, ints)

offset_fits : (z : ℤ) → is_offset z ≡ true → FitsSigned w32 z
offset_fits z h = grind (arith, ints)

first_of : (i : ℕ) (before : Option ℤ) (s : Stretch) (rest : List Stretch) → bad_place i before (s ∷ rest) ≡ None → (may_follow before s.from ≡ true) × (is_offset s.offset ≡ true) × (bad_place (i + 1) (Some s.from) rest ≡ None)
first_of i before s rest h = grind arith

put_first : (i : ℕ) (before : Option ℤ) (s : Stretch) (rest : List Stretch) → may_follow before s.from ≡ true → is_offset s.offset ≡ true → bad_place (i + 1) (Some s.from) rest ≡ None → bad_place i before (s ∷ rest) ≡ None
put_first i before s rest h o r = grind arith

module _ (version : Version) where
  items-of_places : (i : ℕ) (before : Option Stretch) (zs : List Stretch) → bad_place i (start before) zs ≡ None → has_starts version zs ≡ true → AreItems (IsNext version) before zs
  items-of_places i before [] h k = tt
  items-of_places i before (s ∷ rest) h k =
      let f = first_of i (start before) s rest h in
      let known = parts_true (has_moment version s.from) (has_starts version rest) k in (
        record { from = record { fits = begin_fits (start before) s.from f.0; passed = rw (known.first, f.0) refl }; offset = record { fits = offset_fits s.offset f.1; passed = f.1 } },
        items-of_places (i + 1) (Some s) rest f.2 known.others,
      )

  places-of_items : (i : ℕ) (before : Option Stretch) (zs : List Stretch) → AreItems (IsNext version) before zs → bad_place i (start before) zs ≡ None
  places-of_items i before [] h = refl
  places-of_items i before (s ∷ rest) h =
      let begins = parts_true (has_moment version s.from) (may_follow (start before) s.from) h.0.from.passed in
      put_first i (start before) s rest begins.others h.0.offset.passed (places-of_items (i + 1) (Some s) rest h.1)

  starts-of_items : (before : Option Stretch) (zs : List Stretch) → AreItems (IsNext version) before zs → has_starts version zs ≡ true
  starts-of_items before [] h = refl
  starts-of_items before (s ∷ rest) h =
      let begins = parts_true (has_moment version s.from) (may_follow (start before) s.from) h.0.from.passed in
      rw (begins.first, starts-of_items (Some s) rest h.1) refl

  table-of_zone : (zs : List Stretch) → IsTable version zs → IsList (IsNext version) 1 STRETCH_LIMIT zs
  unfolding bad_zone
  table-of_zone [] h = absurd (let none = h.valid in cc)
  table-of_zone (s ∷ rest) h =
      let valid = h.valid in
      record { size = grind arith; items = items-of_places 0 None (s ∷ rest) (grind arith) h.starts }

  zone-of_table : (zs : List Stretch) → IsList (IsNext version) 1 STRETCH_LIMIT zs → bad_zone zs ≡ None
  unfolding bad_zone
  zone-of_table [] h = absurd (let size = h.size in cc)
  zone-of_table (s ∷ rest) h =
      let places = places-of_items 0 None (s ∷ rest) h.items in
      let size = h.size in
      grind arith

  pub table_format : IsFormat (list stretch) Any (IsTable version) (list_at 1 STRETCH_LIMIT (next_stretch_at version)) 6146
  table_format = same (list_format 1 STRETCH_LIMIT (omega arith) (next_format version)) (λ zs k. refl) (λ zs k p. record { valid = zone-of_table zs p; starts = starts-of_items None zs p.items }) (λ zs k p. table-of_zone zs p)

-- Version two names every moment.
starts_of_two : (zs : List Stretch) → has_starts Two zs ≡ true
starts_of_two [] = refl
starts_of_two (s ∷ rest) = starts_of_two rest

pub table_of_two : (zs : List Stretch) → bad_zone zs ≡ None → IsTable Two zs
table_of_two zs valid = record { valid = valid; starts = starts_of_two zs }
