-- Kinds of triggers: each that is valid is written and read so, and none else is read.
use Rattle.std.proofs.Common.{◌≡◌, ℕ, ◌^◌, ◌<◌, ℤ, Bool, true, List, [], ◌∷◌, ◌++◌, Ok, refl, subst, arith}
use Rattle.std.specs.Int.{w32, w64}
use Rattle.qz_civil.specs.declared.fields.CronFields.{CronFields}
use Rattle.qz_civil.specs.declared.timings.Kind.{Kind}
use Rattle.qz_civil.specs.declared.timings.Kind.TheVariants.{Simple, Cron, Interval, Daily}
use Rattle.qz_civil.specs.declared.timings.Unit.{Unit as Units}
use Rattle.qz_civil.specs.declared.timings.Unit.TheVariants.{Second, Minute, Hour, Day, Week, Month, Year}
use Rattle.qz_civil.specs.Timings.{is_kind, is_every, is_day_set, is_step, seconds}
use Rattle.qz_values.specs.declared.versions.Version.{Version}
use Rattle.qz_values.specs.declared.versions.Version.TheVariants.{One, Two}
use Rattle.qz_values.specs.Fields.{number, integer, text, IsName, IsNumber, IsSpan, checked, byte_at, number_at, integer_at, name_at, span_at}
use Rattle.qz_values.specs.CronFields.{cron_fields, cron_fields_at}
use Rattle.qz_values.specs.Timings.{unit_place, interval_flags, kind, HasFlags, IsDaily, IsKind, unit_at, simple_at, cron_at, interval_flags_at, interval_at, is_even, is_second_from, daily_at, kind_at}
use Rattle.qz_values.specs.Formats.{Takes, IsFormat, Any}
use Rattle.qz_values.proofs.Formats.{Both, ok_is, same, those}
use Rattle.qz_values.proofs.SingleFields.{wide32, one_byte, flag_format}
use Rattle.qz_values.proofs.NameFormats.{name_format, tested, span_format, narrowed, narrow_byte}
use Rattle.qz_values.proofs.VariantFormats.{IsVariant, variant, read_so, pair, pair_by, regroup, Choices, part, bare, wider, tagged}
use Rattle.qz_values.proofs.CronFormats.{IsCronFields, cron_fields_format}

-- ---- units

abbrev unit_byte : Units → List ℕ
unit_byte unit = unit_place unit ∷ []

unit_choices : Choices Units
unit_choices =
    (0, λ rest. Ok (Second, rest))
    ∷ (1, λ rest. Ok (Minute, rest))
    ∷ (2, λ rest. Ok (Hour, rest))
    ∷ (3, λ rest. Ok (Day, rest))
    ∷ (4, λ rest. Ok (Week, rest))
    ∷ (5, λ rest. Ok (Month, rest))
    ∷ (6, λ rest. Ok (Year, rest))
    ∷ []

unit_again : (unit : Units) (rest : List ℕ) → Unit {0} → unit_at (unit_byte unit ++ rest) ≡ Ok (unit, rest)
unfolding unit_at byte_at
unit_again Second rest is = refl
unit_again Minute rest is = refl
unit_again Hour rest is = refl
unit_again Day rest is = refl
unit_again Week rest is = refl
unit_again Month rest is = refl
unit_again Year rest is = refl

unit_format : IsFormat unit_byte Any Any unit_at 1
unfolding unit_at byte_at unit_choices
unit_format = tagged 0 unit_choices
    (bare 0 Second refl tt, (bare 1 Minute refl tt, (bare 2 Hour refl tt, (bare 3 Day refl tt, (bare 4 Week refl tt, (bare 5 Month refl tt, (bare 6 Year refl tt, tt)))))))
    refl (λ b bytes. refl) unit_again

-- ---- what follows a kind's place

abbrev make_simple : ℤ × ℤ → Kind
make_simple x = Simple x.0 x.1

simple : IsVariant make_simple (λ (x : ℤ × ℤ). integer w64 x.0 ++ integer w64 x.1) (λ (x : ℤ × ℤ). Both (IsSpan x.0) (IsNumber w64 (λ n. is_kind (Simple x.0 n)) x.1)) simple_at 16
unfolding simple_at
simple = read_so simple_at (variant make_simple (pair_by {IsB = λ i. IsNumber w64 (λ n. is_kind (Simple i n))} span_format (λ i. tested (λ n. is_kind (Simple i n)))))
    (λ bytes. regroup make_simple (span_at bytes) (λ i. checked (λ n. is_kind (Simple i.0 n)) (integer_at w64) i.1) _ (λ i. refl))

abbrev make_cron : CronFields × List ℕ → Kind
make_cron x = Cron x.0 x.1

cron : (version : Version) → IsVariant make_cron (λ (x : CronFields × List ℕ). cron_fields x.0 ++ text x.1) (λ (x : CronFields × List ℕ). Both (IsCronFields version x.0) (IsName x.1)) (cron_at version) 264
unfolding cron_at
cron version = read_so (cron_at version) (variant make_cron (pair (cron_fields_format version) name_format)) (λ bytes. regroup make_cron (cron_fields_at version bytes) (λ fields. name_at fields.1) _ (λ fields. refl))

-- an interval's two flags
abbrev Flags : Type 0
Flags = Bool × Bool

abbrev put_flags : Version → Flags → List ℕ
put_flags version x = interval_flags version x.0 x.1

abbrev AreFlags : Version → Flags → Type 0
AreFlags version x = HasFlags version x.0 x.1

-- in version one nothing is written, and nothing is read
no_flags : IsFormat (put_flags One) Any (AreFlags One) (interval_flags_at One) 0
unfolding interval_flags_at
no_flags = record {
  again = λ x rest known is. rw (is.0, is.1) refl;
  takes = λ bytes x fits e. subst (λ (y : Flags × List ℕ). Takes (put_flags One) Any (AreFlags One) bytes y) (ok_is ((true, true), bytes) x e) (record { parts = refl; rest = fits; known = tt; valid = (refl, refl) });
  near = λ bytes. record { within = omega arith; near = omega arith };
}

flags_format : (version : Version) → IsFormat (put_flags version) Any (AreFlags version) (interval_flags_at version) 2
unfolding interval_flags_at
flags_format One = wider (omega arith) no_flags
flags_format Two = same {Is' = AreFlags Two} (pair flag_format flag_format) (λ x k. refl) (λ x k p. tt) (λ x k p. record { first = tt; others = tt })

-- every, zone and flags
abbrev Spaced : Type 0
Spaced = ℕ × (List ℕ × Flags)

abbrev make_interval : Units × Spaced → Kind
make_interval x = Interval x.0 x.1.0 x.1.1.0 x.1.1.1.0 x.1.1.1.1

abbrev put_interval : Version → Units × Spaced → List ℕ
put_interval version x = unit_byte x.0 ++ (number w32 x.1.0 ++ (text x.1.1.0 ++ put_flags version x.1.1.1))

abbrev IsSpaced : Version → Units × Spaced → Type 0
IsSpaced version x = Both (Any x.0) (Both (is_every x.1.0 ≡ true) (Both (IsName x.1.1.0) (AreFlags version x.1.1.1)))

every_format : IsFormat (number w32) Any (λ n. is_every n ≡ true) (checked is_every (number_at w32)) 4
every_format = narrowed wide32 is_every (λ n h. grind arith)

interval : (version : Version) → IsVariant make_interval (put_interval version) (IsSpaced version) (interval_at version) 209
unfolding interval_at
interval version = read_so (interval_at version) (variant make_interval (pair unit_format (pair every_format (pair name_format (flags_format version)))))
    (λ bytes. regroup make_interval (unit_at bytes) _ _ (λ unit.
    regroup (λ x. make_interval (unit.0, x)) (checked is_every (number_at w32) unit.1) _ _ (λ every.
    regroup (λ x. make_interval (unit.0, (every.0, x))) (name_at every.1) (λ zone. interval_flags_at version zone.1) _ (λ zone. refl))))

even_format : IsFormat unit_byte Any (λ unit. is_even unit ≡ true) (checked is_even unit_at) 1
even_format = same (those is_even unit_format) (λ u k. refl) (λ u k p. p.passed) (λ u k p. record { fits = tt; passed = p })

step-below : (unit : Units) (n : ℕ) → is_step unit n ≡ true → n < 2 ^ 32
unfolding seconds is_step
step-below Second n h = grind arith
step-below Minute n h = grind arith
step-below Hour n h = grind arith
step-below Day n h = grind arith
step-below Week n h = grind arith
step-below Month n h = grind arith
step-below Year n h = grind arith

-- a unit that has a step is even
step-even : (unit : Units) (n : ℕ) → is_step unit n ≡ true → is_even unit ≡ true
unfolding seconds is_step
step-even Second n h = refl
step-even Minute n h = refl
step-even Hour n h = refl
step-even Day n h = cc
step-even Week n h = cc
step-even Month n h = cc
step-even Year n h = cc

step_format : (unit : Units) → IsFormat (number w32) Any (λ n. is_step unit n ≡ true) (checked (is_step unit) (number_at w32)) 4
step_format unit = narrowed wide32 (is_step unit) (step-below unit)

second_format : (from : ℕ) → IsFormat (number w32) Any (λ n. is_second_from from n ≡ true) (checked (is_second_from from) (number_at w32)) 4
second_format from = narrowed wide32 (is_second_from from) (λ n h. grind arith)

days_format : IsFormat one_byte Any (λ n. is_day_set n ≡ true) (checked is_day_set byte_at) 1
days_format = narrow_byte is_day_set (λ n h. grind arith)

-- every, from, to, days and zone
abbrev Rest : Type 0
Rest = ℕ × (ℕ × (ℕ × (ℕ × List ℕ)))

abbrev make_daily : Units × Rest → Kind
make_daily x = Daily x.0 x.1.0 x.1.1.0 x.1.1.1.0 x.1.1.1.1.0 x.1.1.1.1.1

abbrev put_daily : Units × Rest → List ℕ
put_daily x = unit_byte x.0 ++ (number w32 x.1.0 ++ (number w32 x.1.1.0 ++ (number w32 x.1.1.1.0 ++ (one_byte x.1.1.1.1.0 ++ text x.1.1.1.1.1))))

abbrev AreTimes : ℕ → ℕ × (ℕ × List ℕ) → Type 0
AreTimes from x = Both (is_second_from from x.0 ≡ true) (Both (is_day_set x.1.0 ≡ true) (IsName x.1.1))

abbrev AreSteps : Units → Rest → Type 0
AreSteps unit x = Both (is_step unit x.0 ≡ true) (Both (is_second_from 0 x.1.0 ≡ true) (AreTimes x.1.0 x.1.1))

abbrev AreDaily : Units × Rest → Type 0
AreDaily x = Both (is_even x.0 ≡ true) (AreSteps x.0 x.1)

daily : IsVariant make_daily put_daily AreDaily daily_at 216
unfolding daily_at
daily = read_so daily_at (variant make_daily (pair_by {IsB = AreSteps} even_format (λ unit. pair (step_format unit) (pair_by {IsB = AreTimes} (second_format 0) (λ from. pair (second_format from) (pair days_format name_format))))))
    (λ bytes. regroup make_daily (checked is_even unit_at bytes) _ _ (λ unit.
    regroup (λ x. make_daily (unit.0, x)) (checked (is_step unit.0) (number_at w32) unit.1) _ _ (λ every.
    regroup (λ x. make_daily (unit.0, (every.0, x))) (checked (is_second_from 0) (number_at w32) every.1) _ _ (λ from.
    regroup (λ x. make_daily (unit.0, (every.0, (from.0, x)))) (checked (is_second_from from.0) (number_at w32) from.1) _ _ (λ to.
    regroup (λ x. make_daily (unit.0, (every.0, (from.0, (to.0, x))))) (checked is_day_set byte_at to.1) (λ days. name_at days.1) _ (λ days. refl))))))

-- ---- kinds

daily-valid : (x : Units × Rest) → AreDaily x → IsDaily x.0 x.1.0 x.1.1.0 x.1.1.1.0 x.1.1.1.1.0 x.1.1.1.1.1
daily-valid x p = record { time = rw (p.others.first, p.others.others.others.first) refl; days = p.others.others.others.others.first; zone = p.others.others.others.others.others }

daily-parts : (unit : Units) (every from to days : ℕ) (zone : List ℕ) → IsDaily unit every from to days zone → AreDaily (unit, (every, (from, (to, (days, zone)))))
daily-parts unit every from to days zone is =
    let time = is.time in
    let step : is_step unit every ≡ true = grind arith in
    record { first = step-even unit every step; others = record { first = step; others = record { first = grind arith; others = record { first = grind arith; others = record { first = is.days; others = is.zone } } } } }

kind_choices : Version → Choices Kind
kind_choices version = (0, simple_at) ∷ (1, cron_at version) ∷ (2, interval_at version) ∷ (3, daily_at) ∷ []

kind_again : (version : Version) (k : Kind) (rest : List ℕ) → IsKind version k → kind_at version (kind version k ++ rest) ≡ Ok (k, rest)
unfolding kind_at byte_at kind
kind_again version (Simple interval count) rest is = simple.again (interval, count) rest (record { first = is.0; others = is.1 })
kind_again version (Cron fields zone) rest is = (cron version).again (fields, zone) rest (record { first = record { valid = is.fields; long = is.words; known = is.years }; others = is.zone })
kind_again version (Interval unit every zone preserve skip) rest is = (interval version).again (unit, (every, (zone, (preserve, skip)))) rest (record { first = tt; others = record { first = is.every; others = record { first = is.zone; others = is.flags } } })
kind_again version (Daily unit every from to days zone) rest is = daily.again (unit, (every, (from, (to, (days, zone))))) rest (daily-parts unit every from to days zone is)

pub kind_format : (version : Version) → IsFormat (kind version) Any (IsKind version) (kind_at version) 265
unfolding kind_at byte_at kind kind_choices
kind_format version = tagged 264 (kind_choices version) (
  part 0 simple (omega arith) (λ x. refl) (λ x p. (p.first, p.others)),
  (
    part 1 (cron version) (omega arith) (λ x. refl) (λ x p. record { fields = p.first.valid; words = p.first.long; years = p.first.known; zone = p.others }),
    (
      part 2 (interval version) (omega arith) (λ x. refl) (λ x p. record { every = p.others.first; zone = p.others.others.first; flags = p.others.others.others }),
      (part 3 daily (omega arith) (λ x. refl) daily-valid, tt),
    ),
  ),
)
    refl (λ b bytes. refl) (kind_again version)
