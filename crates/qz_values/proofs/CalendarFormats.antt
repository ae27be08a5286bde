-- Kinds of calendars: each that is valid is written and read so, and none else is read.
use Rattle.std.proofs.Common.{◌≡◌, ℕ, ◌/◌, ◌<◌, ◌^◌, Bool, true, List, [], ◌∷◌, ◌++◌, length, Option, None, Some, Ok, refl, arith}
use Rattle.std.specs.Prelude.{nat_le}
use Rattle.std.specs.Int.{Width, w16, w32, byte_len}
use Rattle.qz_civil.specs.Calendars.{is_annual_day, is_holiday, is_above, are_above, is_list_of, is_day_part, is_calendar_kind}
use Rattle.qz_civil.specs.Fields.{is_cron_fields}
use Rattle.qz_civil.specs.declared.calendars.CalendarKind.{CalendarKind}
use Rattle.qz_civil.specs.declared.calendars.CalendarKind.TheVariants.{Annual, Holiday, Weekly, Monthly, Daily, Cron}
use Rattle.qz_civil.specs.declared.fields.CronFields.{CronFields}
use Rattle.qz_civil.specs.declared.limits.TheConstants.{ANNUAL_LIMIT, HOLIDAY_LIMIT}
use Rattle.qz_values.specs.declared.versions.Version.{Version}
use Rattle.qz_values.specs.declared.versions.Version.TheVariants.{Two}
use Rattle.qz_values.specs.Fields.{number, flag, is_long, as_variant, checked, byte_at, number_at, flag_at}
use Rattle.qz_values.specs.CronFields.{cron_fields, cron_fields_at}
use Rattle.qz_values.specs.Lists.{list, list_at}
use Rattle.qz_values.specs.Versions.{has_year, has_years}
use Rattle.qz_values.specs.Calendars.{calendar_kind, is_holiday_of, is_kind_of, HasWords, IsCalendarKind, is_next, next_day_at, next_date_at, day_part_at, calendar_kind_at}
use Rattle.qz_values.specs.Formats.{IsFormat, Any}
use Rattle.qz_values.proofs.Formats.{Both, same}
use Rattle.qz_values.proofs.SingleFields.{IsWide, one_byte, wide16, wide32, flag_format}
use Rattle.qz_values.proofs.NameFormats.{narrowed, narrow_byte}
use Rattle.qz_values.proofs.VariantFormats.{IsVariant, variant, read_so, pair, pair_by, regroup, Choices, part, tagged}
use Rattle.qz_values.proofs.CronFormats.{IsCronFields, cron_fields_format}
use Rattle.qz_values.proofs.ListFormats.{AreItems, IsList, list_format}
use Rattle.qz_values.proofs.Truths.{parts_true}

-- ---- ascending lists

-- passes, and is above the one before
abbrev IsNext : (ℕ → Bool) → Option ℕ → ℕ → Type 0
IsNext passes before n = is_next passes before n ≡ true

next_format : {w : Width} {limit : ℕ} → IsWide w limit → (passes : ℕ → Bool) → ((n : ℕ) → passes n ≡ true → n < limit) → (before : Option ℕ) → IsFormat (number w) Any (IsNext passes before) (checked (is_next passes before) (number_at w)) (byte_len w)
next_format wide passes below before = narrowed wide (is_next passes before) (λ n h. below n (parts_true (passes n) (is_above before n) h).first)

items-of_above : (passes : ℕ → Bool) (before : Option ℕ) (ns : List ℕ) → are_above passes before ns ≡ true → AreItems (IsNext passes) before ns
items-of_above passes before [] h = tt
items-of_above passes before (n ∷ ns) h =
    let both = parts_true (is_next passes before n) (are_above passes (Some n) ns) h in
    (both.first, items-of_above passes (Some n) ns both.others)

above-of_items : (passes : ℕ → Bool) (before : Option ℕ) (ns : List ℕ) → AreItems (IsNext passes) before ns → are_above passes before ns ≡ true
above-of_items passes before [] h = refl
above-of_items passes before (n ∷ ns) h = rw (h.0, above-of_items passes (Some n) ns h.1) refl

count_long : (limit n : ℕ) → nat_le n limit ≡ true → is_long 0 limit n ≡ true
count_long limit n h = grind arith

long_count : (limit n : ℕ) → is_long 0 limit n ≡ true → nat_le n limit ≡ true
long_count limit n h = grind arith

list-of_valid : (passes : ℕ → Bool) (limit : ℕ) (ns : List ℕ) → is_list_of passes limit ns ≡ true → IsList (IsNext passes) 0 limit ns
list-of_valid passes limit ns h =
    let both = parts_true (nat_le (length ns) limit) (are_above passes None ns) h in
    record { size = count_long limit (length ns) both.first; items = items-of_above passes None ns both.others }

valid-of_list : (passes : ℕ → Bool) (limit : ℕ) (ns : List ℕ) → IsList (IsNext passes) 0 limit ns → is_list_of passes limit ns ≡ true
valid-of_list passes limit ns h =
    let few = long_count limit (length ns) h.size in
    rw (few, above-of_items passes None ns h.items) refl

day_fits : (n : ℕ) → is_annual_day n ≡ true → n < 2 ^ 16
day_fits n h = grind arith

date_fits : (n : ℕ) → is_holiday n ≡ true → n < 2 ^ 32
date_fits n h = grind arith

date_of_fits : (version : Version) (n : ℕ) → is_holiday_of version n ≡ true → n < 2 ^ 32
date_of_fits version n h = date_fits n (parts_true (has_year version (n / 10000)) (is_holiday n) h).others

-- dates of a version are dates
dates_above : (version : Version) (before : Option ℕ) (ns : List ℕ) → are_above (is_holiday_of version) before ns ≡ true → are_above is_holiday before ns ≡ true
dates_above version before [] h = refl
dates_above version before (n ∷ ns) h =
    let both = parts_true (is_next (is_holiday_of version) before n) (are_above (is_holiday_of version) (Some n) ns) h in
    let first = parts_true (is_holiday_of version n) (is_above before n) both.first in
    let date = parts_true (has_year version (n / 10000)) (is_holiday n) first.first in
    rw (date.others, first.others, dates_above version (Some n) ns both.others) refl

pub dates_valid : (version : Version) (ns : List ℕ) → is_list_of (is_holiday_of version) HOLIDAY_LIMIT ns ≡ true → is_list_of is_holiday HOLIDAY_LIMIT ns ≡ true
dates_valid version ns h =
    let both = parts_true (nat_le (length ns) HOLIDAY_LIMIT) (are_above (is_holiday_of version) None ns) h in
    rw (both.first, dates_above version None ns both.others) refl

pub days_format : IsFormat (list (number w16)) Any (λ ns. is_list_of is_annual_day ANNUAL_LIMIT ns ≡ true) (list_at 0 ANNUAL_LIMIT next_day_at) 734
days_format = same (list_format 0 ANNUAL_LIMIT (omega arith) (next_format wide16 is_annual_day day_fits)) (λ ns k. refl) (λ ns k p. valid-of_list is_annual_day ANNUAL_LIMIT ns p) (λ ns k p. list-of_valid is_annual_day ANNUAL_LIMIT ns p)

pub dates_format : (version : Version) → IsFormat (list (number w32)) Any (λ ns. is_list_of (is_holiday_of version) HOLIDAY_LIMIT ns ≡ true) (list_at 0 HOLIDAY_LIMIT (next_date_at version)) 16386
dates_format version = same (list_format 0 HOLIDAY_LIMIT (omega arith) (next_format wide32 (is_holiday_of version) (date_of_fits version))) (λ ns k. refl) (λ ns k p. valid-of_list (is_holiday_of version) HOLIDAY_LIMIT ns p) (λ ns k p. list-of_valid (is_holiday_of version) HOLIDAY_LIMIT ns p)

-- ---- what follows a kind's place

annual : IsVariant Annual (list (number w16)) (λ ns. is_list_of is_annual_day ANNUAL_LIMIT ns ≡ true) (λ rest. as_variant Annual (list_at 0 ANNUAL_LIMIT next_day_at rest)) 734
annual = variant Annual days_format

holiday : (version : Version) → IsVariant Holiday (list (number w32)) (λ ns. is_list_of (is_holiday_of version) HOLIDAY_LIMIT ns ≡ true) (λ rest. as_variant Holiday (list_at 0 HOLIDAY_LIMIT (next_date_at version) rest)) 16386
holiday version = variant Holiday (dates_format version)

weekly : IsVariant Weekly one_byte (λ n. is_calendar_kind (Weekly n) ≡ true) (λ rest. as_variant Weekly (checked (λ n. is_calendar_kind (Weekly n)) byte_at rest)) 1
weekly = variant Weekly (narrow_byte (λ n. is_calendar_kind (Weekly n)) (λ n h. grind arith))

monthly : IsVariant Monthly (number w32) (λ n. is_calendar_kind (Monthly n) ≡ true) (λ rest. as_variant Monthly (checked (λ n. is_calendar_kind (Monthly n)) (number_at w32) rest)) 4
monthly = variant Monthly (narrowed wide32 (λ n. is_calendar_kind (Monthly n)) (λ n h. grind arith))

part_format : (from : ℕ) → IsFormat (number w32) Any (λ n. is_day_part from n ≡ true) (checked (is_day_part from) (number_at w32)) 4
part_format from = narrowed wide32 (is_day_part from) (λ n h. grind arith)

-- from, to and whether it is inverted
abbrev Part : Type 0
Part = ℕ × (ℕ × Bool)

abbrev make_daily : Part → CalendarKind
make_daily x = Daily x.0 x.1.0 x.1.1

abbrev put_daily : Part → List ℕ
put_daily x = number w32 x.0 ++ (number w32 x.1.0 ++ flag x.1.1)

abbrev IsRest : ℕ → ℕ × Bool → Type 0
IsRest from x = Both (is_day_part from x.0 ≡ true) (Any x.1)

abbrev IsPartOfDay : Part → Type 0
IsPartOfDay x = Both (is_day_part 0 x.0 ≡ true) (IsRest x.0 x.1)

daily : IsVariant make_daily put_daily IsPartOfDay day_part_at 9
unfolding day_part_at
daily = read_so day_part_at (variant make_daily (pair_by {IsB = IsRest} (part_format 0) (λ from. pair (part_format from) flag_format)))
    (λ bytes. regroup make_daily (checked (is_day_part 0) (number_at w32) bytes) _ _ (λ from.
    regroup (λ x. make_daily (from.0, x)) (checked (is_day_part from.0) (number_at w32) from.1) (λ to. flag_at to.1) _ (λ to. refl)))

cron : (version : Version) → IsVariant Cron cron_fields (IsCronFields version) (λ rest. as_variant Cron (cron_fields_at version rest)) 62
cron version = variant Cron (cron_fields_format version)

-- ---- kinds

-- where a part of the day ends, it is a ms of the day; so is where it begins
daily-parts : (from to : ℕ) (inverted : Bool) → is_day_part from to ≡ true → IsPartOfDay (from, (to, inverted))
daily-parts from to inverted h = record { first = grind arith; others = record { first = h; others = tt } }

kind_choices : Version → Choices CalendarKind
kind_choices version =
    (0, λ rest. as_variant Annual (list_at 0 ANNUAL_LIMIT next_day_at rest))
    ∷ (1, λ rest. as_variant Holiday (list_at 0 HOLIDAY_LIMIT (next_date_at version) rest))
    ∷ (2, λ rest. as_variant Weekly (checked (λ n. is_calendar_kind (Weekly n)) byte_at rest))
    ∷ (3, λ rest. as_variant Monthly (checked (λ n. is_calendar_kind (Monthly n)) (number_at w32) rest))
    ∷ (4, day_part_at)
    ∷ (5, λ rest. as_variant Cron (cron_fields_at version rest))
    ∷ []

cron_known : (version : Version) (fields : CronFields) → is_kind_of version (Cron fields) ≡ true → length fields.years ≡ 4 → IsCronFields version fields
cron_known version fields h long =
    let both = parts_true (has_years version fields.years) (is_cron_fields fields) h in
    record { valid = both.others; long = long; known = both.first }

kind_again : (version : Version) (k : CalendarKind) (rest : List ℕ) → IsCalendarKind version k → calendar_kind_at version (calendar_kind k ++ rest) ≡ Ok (k, rest)
unfolding calendar_kind_at byte_at calendar_kind
kind_again version (Annual days) rest is = annual.again days rest is.valid
kind_again version (Holiday dates) rest is = (holiday version).again dates rest is.valid
kind_again version (Weekly days) rest is = weekly.again days rest is.valid
kind_again version (Monthly days) rest is = monthly.again days rest is.valid
kind_again version (Daily from to inverted) rest is = daily.again (from, (to, inverted)) rest (daily-parts from to inverted is.valid)
kind_again version (Cron fields) rest is = (cron version).again fields rest (cron_known version fields is.valid is.words)

pub calendar_kind_format : (version : Version) → IsFormat calendar_kind Any (IsCalendarKind version) (calendar_kind_at version) 16387
unfolding calendar_kind_at byte_at calendar_kind kind_choices
calendar_kind_format version = tagged 16386 (kind_choices version) (
  part 0 annual (omega arith) (λ x. refl) (λ x is. record { valid = is; words = tt }),
  (
    part 1 (holiday version) (omega arith) (λ x. refl) (λ x is. record { valid = is; words = tt }),
    (
      part 2 weekly (omega arith) (λ x. refl) (λ x is. record { valid = is; words = tt }),
      (
        part 3 monthly (omega arith) (λ x. refl) (λ x is. record { valid = is; words = tt }),
        (
          part 4 daily (omega arith) (λ x. refl) (λ x is. record { valid = is.others.first; words = tt }),
          (part 5 (cron version) (omega arith) (λ x. refl) (λ x is. record { valid = rw (is.known, is.valid) refl; words = is.long }), tt),
        ),
      ),
    ),
  ),
)
    refl (λ b bytes. refl) (kind_again version)

-- Version two has every calendar that is valid.
kind_of_two : (k : CalendarKind) → is_calendar_kind k ≡ true → is_kind_of Two k ≡ true
kind_of_two (Annual days) h = h
kind_of_two (Holiday dates) h = h
kind_of_two (Weekly days) h = h
kind_of_two (Monthly days) h = h
kind_of_two (Daily from to inverted) h = h
kind_of_two (Cron fields) h = h

pub calendar_of_two : (k : CalendarKind) → is_calendar_kind k ≡ true → HasWords k → IsCalendarKind Two k
calendar_of_two k valid words = record { valid = kind_of_two k valid; words = words }
