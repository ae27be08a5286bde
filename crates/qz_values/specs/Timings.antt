-- The bytes of a trigger's timing, both ways.
use Rattle.std.specs.Prelude.{ℕ, List, [], ◌∷◌, ◌++◌, ◌≡◌, length, true, IfSome, nat_lt, nat_le, is_some, ◌==◌, ◌&&◌, Bool, Ok, Err, if◌then◌else◌}
use Rattle.std.specs.Int.{w32, w64, w8}
use Rattle.qz_civil.specs.declared.timings.Kind.{Kind}
use Rattle.qz_civil.specs.declared.timings.Kind.TheVariants.{Simple, Cron, Interval, Daily}
use Rattle.qz_civil.specs.declared.timings.Timing.{Timing}
use Rattle.qz_civil.specs.declared.timings.Unit.{Unit as Units}
use Rattle.qz_civil.specs.declared.timings.Unit.TheVariants as units
use Rattle.qz_values.specs.declared.versions.Version.{Version}
use Rattle.qz_values.specs.declared.versions.Version.TheVariants.{One, Two}
use Rattle.qz_values.specs.Fields.{number, integer, small, flag, text, optional, IsName, IsNumber, IsSpan, ◌>>=◌, Read, checked, byte_at, number_at, integer_at, small_at, flag_at, name_at, span_at, optional_at}
use Rattle.qz_values.specs.Versions.{has_years}
use Rattle.qz_values.specs.CronFields.{cron_fields, cron_fields_at}
use Rattle.qz_civil.specs.declared.fields.CronFields.{CronFields}
use Rattle.qz_civil.specs.Fields.{is_cron_fields}
use Rattle.qz_civil.specs.Timings.{is_kind, is_misfire, is_every, is_daily_time, is_day_set, is_step, seconds}
use Rattle.qz_civil.specs.declared.limits.TheConstants.{DAY_SECONDS}

-- the place of a unit among all units
abbrev pub unit_place : Units → ℕ
unit_place units.Second = 0
unit_place units.Minute = 1
unit_place units.Hour = 2
unit_place units.Day = 3
unit_place units.Week = 4
unit_place units.Month = 5
unit_place units.Year = 6

-- an interval's two flags, which version one doesn't write: there both are true
abbrev pub interval_flags : Version → Bool → Bool → List ℕ
interval_flags One preserve skip = []
interval_flags Two preserve skip = flag preserve ++ flag skip

-- a kind: its place among the four, and what it has
unfoldable pub kind : Version → Kind → List ℕ
kind version (Simple interval count) = 0 ∷ (integer w64 interval ++ integer w64 count)
kind version (Cron fields zone) = 1 ∷ (cron_fields fields ++ text zone)
kind version (Interval unit every zone preserve skip) =
    2 ∷ unit_place unit ∷ (number w32 every ++ (text zone ++ interval_flags version preserve skip))
kind version (Daily unit every from to days zone) =
    3 ∷ unit_place unit ∷ (number w32 every ++ (number w32 from ++ (number w32 to ++ (days ∷ text zone))))

-- a timing: its kind, its misfire instruction in one byte, its start, and its end if it has one
unfoldable pub timing : Version → Timing → List ℕ
timing version t = kind version t.kind ++ (small t.misfire ++ (integer w64 t.start ++ optional (integer w64) t.end))

-- what each kind of trigger has
pub record IsCron (version : Version) (f : CronFields) (z : List ℕ) : Type 0 where
  pub fields : is_cron_fields f ≡ true
  pub words : length f.years ≡ 4
  pub years : has_years version f.years ≡ true
  pub zone : IsName z

-- In version one an interval has these flags alone.
abbrev pub HasFlags : Version → Bool → Bool → Type 0
HasFlags One preserve skip = (preserve ≡ true) × (skip ≡ true)
HasFlags Two preserve skip = Unit {0}

pub record IsInterval (version : Version) (n : ℕ) (z : List ℕ) (preserve skip : Bool) : Type 0 where
  pub every : is_every n ≡ true
  pub zone : IsName z
  pub flags : HasFlags version preserve skip

pub record IsDaily (unit : Units) (every from to set : ℕ) (z : List ℕ) : Type 0 where
  pub time : is_daily_time unit every from to ≡ true
  pub days : is_day_set set ≡ true
  pub zone : IsName z

-- a kind; a simple trigger's count goes with its interval
abbrev pub IsKind : Version → Kind → Type 0
IsKind version (Simple interval count) = IsSpan interval × IsNumber w64 (λ n. is_kind (Simple interval n)) count
IsKind version (Cron fields zone) = IsCron version fields zone
IsKind version (Interval unit every zone preserve skip) = IsInterval version every zone preserve skip
IsKind version (Daily unit every from to days zone) = IsDaily unit every from to days zone

-- the misfire instruction is one of the kind's
pub record IsTiming (version : Version) (t : Timing) : Type 0 where
  pub kind : IsKind version t.kind
  pub misfire : IsNumber w8 (is_misfire t.kind) t.misfire
  pub start : IsSpan t.start
  pub end : IfSome t.end IsSpan

unfoldable pub unit_at : List ℕ → Read Units
unit_at bytes = do
  place ← byte_at bytes
  if place.0 == 0 then Ok (units.Second, place.1)
      else if place.0 == 1 then Ok (units.Minute, place.1)
      else if place.0 == 2 then Ok (units.Hour, place.1)
      else if place.0 == 3 then Ok (units.Day, place.1)
      else if place.0 == 4 then Ok (units.Week, place.1)
      else if place.0 == 5 then Ok (units.Month, place.1)
      else if place.0 == 6 then Ok (units.Year, place.1)
      else Err (length bytes)

unfoldable pub simple_at : List ℕ → Read Kind
simple_at bytes = do
  interval ← span_at bytes
  count ← checked (λ n. is_kind (Simple interval.0 n)) (integer_at w64) interval.1
  Ok (Simple interval.0 count.0, count.1)

unfoldable pub cron_at : Version → List ℕ → Read Kind
cron_at version bytes = do
  fields ← cron_fields_at version bytes
  zone ← name_at fields.1
  Ok (Cron fields.0 zone.0, zone.1)

unfoldable pub interval_flags_at : Version → List ℕ → Read (Bool × Bool)
interval_flags_at One bytes = Ok ((true, true), bytes)
interval_flags_at Two bytes = do
  preserve ← flag_at bytes
  skip ← flag_at preserve.1
  Ok ((preserve.0, skip.0), skip.1)

unfoldable pub interval_at : Version → List ℕ → Read Kind
interval_at version bytes = do
  unit ← unit_at bytes
  every ← checked is_every (number_at w32) unit.1
  zone ← name_at every.1
  flags ← interval_flags_at version zone.1
  Ok (Interval unit.0 every.0 zone.0 flags.0.0 flags.0.1, flags.1)

-- a second, a minute or an hour
abbrev pub is_even : Units → Bool
is_even unit = is_some (seconds unit)

-- a second of the day that isn't before `from`
abbrev pub is_second_from : ℕ → ℕ → Bool
is_second_from from n = nat_le from n && nat_lt n DAY_SECONDS

unfoldable pub daily_at : List ℕ → Read Kind
daily_at bytes = do
  unit ← checked is_even unit_at bytes
  every ← checked (is_step unit.0) (number_at w32) unit.1
  from ← checked (is_second_from 0) (number_at w32) every.1
  to ← checked (is_second_from from.0) (number_at w32) from.1
  days ← checked is_day_set byte_at to.1
  zone ← name_at days.1
  Ok (Daily unit.0 every.0 from.0 to.0 days.0 zone.0, zone.1)

unfoldable pub kind_at : Version → List ℕ → Read Kind
kind_at version bytes = do
  place ← byte_at bytes
  if place.0 == 0 then simple_at place.1
      else if place.0 == 1 then cron_at version place.1
      else if place.0 == 2 then interval_at version place.1
      else if place.0 == 3 then daily_at place.1
      else Err (length bytes)

unfoldable pub timing_at : Version → List ℕ → Read Timing
timing_at version bytes = do
  kind ← kind_at version bytes
  misfire ← checked (is_misfire kind.0) small_at kind.1
  start ← span_at misfire.1
  end ← optional_at span_at start.1
  Ok (record { kind = kind.0; misfire = misfire.0; start = start.0; end = end.0 }, end.1)
