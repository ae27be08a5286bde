-- The stretches of a zone's table one after another, as values.
use Rattle.std.specs.Prelude.{ℤ, Bool, true, false, ◌&&◌, if◌then◌else◌, Option, Some, None}
use Rattle.serde_json.specs.Data.{Data, Items, no_items, item}
use Rattle.qz_civil.specs.declared.stretches.Stretch.{Stretch}
use Rattle.qz_civil.specs.Timings.{is_timestamp}
use Rattle.qz_civil.specs.Zones.{is_offset, is_apart}
use Rattle.qz_job_json.specs.Zones.{stretch_of}

-- where this stretch begins, if it may follow one that begins at `before`
abbrev pub begins_after : Option ℤ → Option Stretch → Option ℤ
begins_after before None = None
begins_after before (Some s) = if (is_timestamp s.from && is_apart before s.from) && is_offset s.offset then Some s.from else None

abbrev pub follows : Option ℤ → Data → Option ℤ
follows before d = begins_after before (stretch_of d)

abbrev pub and_then_all : Option ℤ → (ℤ → Bool) → Bool
and_then_all None rest = false
and_then_all (Some from) rest = rest from

-- each is a stretch that may follow the one before it
abbrev pub all_follow : Option ℤ → Items → Bool
all_follow before no_items = true
all_follow before (item d ds) = and_then_all (follows before d) (λ from. all_follow (Some from) ds)
