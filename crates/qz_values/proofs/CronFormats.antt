-- The fields of a cron text: those that are valid are written and read so, and none else are read.
use Rattle.std.proofs.Common.{◌≡◌, ℕ, ◌^◌, ◌<◌, ◌≤◌, Bool, true, false, cond, List, [], ◌∷◌, ◌++◌, length, get_or, Ok, refl, sym, ap, subst, arith, not, ◌&&◌}
use Rattle.std.specs.Prelude.{nat_le, nat_lt}
use Rattle.std.specs.Int.{Width, w32, w64, byte_len}
use Rattle.std.proofs.lemmas.List.{append-nil}
use Rattle.qz_civil.specs.declared.fields.CronFields.{CronFields}
use Rattle.qz_civil.specs.declared.fields.DayField.{DayField}
use Rattle.qz_civil.specs.declared.fields.DayField.TheVariants as month_days
use Rattle.qz_civil.specs.declared.fields.Field.{Field}
use Rattle.qz_civil.specs.declared.fields.Field.TheVariants.{Seconds, Minutes, Hours, DayOfMonth, Month, DayOfWeek}
use Rattle.qz_civil.specs.declared.fields.WeekField.{WeekField}
use Rattle.qz_civil.specs.declared.fields.WeekField.TheVariants as week_days
use Rattle.qz_civil.specs.Fields.{size, least, greatest, is_set, is_value, is_within_words, has_some, is_year_set, is_day_field, is_week_field, is_any_day, is_any_week, is_time_fields, is_date_fields, is_cron_fields}
use Rattle.qz_values.specs.declared.versions.Version.{Version}
use Rattle.qz_values.specs.declared.versions.Version.TheVariants.{One, Two}
use Rattle.qz_values.specs.Fields.{number, Read, as_variant, checked, byte_at}
use Rattle.qz_values.specs.Versions.{has_years, has_third_word}
use Rattle.qz_values.specs.CronFields.{day_field, week_field, words, cron_fields, set_at, day_at, nth_at, named_week_at, any_week_at, years_at, cron_fields_at}
use Rattle.qz_values.specs.Formats.{IsFormat, Any}
use Rattle.qz_values.proofs.Formats.{Also, Both, Passes, field, last, same, those}
use Rattle.qz_values.proofs.SingleFields.{IsWide, wide16, wide32, wide64, number_format, one_byte}
use Rattle.qz_values.proofs.NameFormats.{narrowed, narrow_byte}
use Rattle.qz_values.proofs.VariantFormats.{IsVariant, variant, read_so, pair, regroup, Choices, part, bare, wider, tagged}
use Rattle.qz_values.proofs.Truths.{parts_true}

-- ---- sets and values

set-below : (f : Field) (set : ℕ) → is_set f set ≡ true → set < 2 ^ size f
unfolding is_set
set-below f set h = grind arith

set_format : {w : Width} {limit : ℕ} (f : Field) → IsWide w limit → 2 ^ size f ≤ limit → IsFormat (number w) Any (λ n. is_set f n ≡ true) (set_at f w) (byte_len w)
set_format f wide fits = narrowed wide (is_set f) (λ n h. omega (arith, set-below f n h, fits))

seconds_fit : 2 ^ size Seconds ≤ 2 ^ 64
unfolding size
seconds_fit = omega arith

minutes_fit : 2 ^ size Minutes ≤ 2 ^ 64
unfolding size
minutes_fit = omega arith

hours_fit : 2 ^ size Hours ≤ 2 ^ 32
unfolding size
hours_fit = omega arith

days_fit : 2 ^ size DayOfMonth ≤ 2 ^ 32
unfolding size
days_fit = omega arith

months_fit : 2 ^ size Month ≤ 2 ^ 16
unfolding size
months_fit = omega arith

weekdays_fit : 2 ^ size DayOfWeek ≤ 256
unfolding size
weekdays_fit = omega arith

day_fits : (n : ℕ) → is_value DayOfMonth n ≡ true → n < 256
unfolding is_value greatest least size
day_fits n h = grind arith

weekday_fits : (n : ℕ) → is_value DayOfWeek n ≡ true → n < 256
unfolding is_value greatest least size
weekday_fits n h = grind arith

weekday_format : IsFormat one_byte Any (λ n. is_value DayOfWeek n ≡ true) (checked (is_value DayOfWeek) byte_at) 1
weekday_format = narrow_byte (is_value DayOfWeek) weekday_fits

-- ---- days of the month

day_choices : Choices DayField
day_choices =
    (0, λ rest. Ok (month_days.Any, rest))
    ∷ (1, λ rest. as_variant month_days.Set (set_at DayOfMonth w32 rest))
    ∷ (2, λ rest. as_variant month_days.Last (checked (λ n. nat_le n 30) byte_at rest))
    ∷ (3, λ rest. Ok (month_days.LastWeekday, rest))
    ∷ (4, λ rest. as_variant month_days.Nearest (checked (is_value DayOfMonth) byte_at rest))
    ∷ []

set_variant : IsVariant month_days.Set (number w32) (λ n. is_set DayOfMonth n ≡ true) (λ rest. as_variant month_days.Set (set_at DayOfMonth w32 rest)) 4
set_variant = variant month_days.Set (set_format DayOfMonth wide32 days_fit)

last_variant : IsVariant month_days.Last one_byte (λ n. nat_le n 30 ≡ true) (λ rest. as_variant month_days.Last (checked (λ n. nat_le n 30) byte_at rest)) 1
last_variant = variant month_days.Last (narrow_byte (λ n. nat_le n 30) (λ n h. grind arith))

nearest_variant : IsVariant month_days.Nearest one_byte (λ n. is_value DayOfMonth n ≡ true) (λ rest. as_variant month_days.Nearest (checked (is_value DayOfMonth) byte_at rest)) 1
nearest_variant = variant month_days.Nearest (narrow_byte (is_value DayOfMonth) day_fits)

day_again : (d : DayField) (rest : List ℕ) → is_day_field d ≡ true → day_at (day_field d ++ rest) ≡ Ok (d, rest)
unfolding day_at byte_at day_field is_day_field
day_again month_days.Any rest is = refl
day_again (month_days.Set set) rest is = set_variant.again set rest is
day_again (month_days.Last back) rest is = last_variant.again back rest is
day_again month_days.LastWeekday rest is = refl
day_again (month_days.Nearest day) rest is = nearest_variant.again day rest is

day_format : IsFormat day_field Any (λ d. is_day_field d ≡ true) day_at 5
unfolding day_at byte_at day_field is_day_field day_choices
day_format = tagged 4 day_choices (
  bare 0 month_days.Any refl refl,
  (
    part 1 set_variant (omega arith) (λ x. refl) (λ x is. is),
    (
      part 2 last_variant (omega arith) (λ x. refl) (λ x is. is),
      (
        bare 3 month_days.LastWeekday refl refl,
        (part 4 nearest_variant (omega arith) (λ x. refl) (λ x is. is), tt),
      ),
    ),
  ),
)
    refl (λ b bytes. refl) day_again

-- ---- days of the week

pub record IsNamed (w : WeekField) : Type 0 where
  pub valid : is_week_field w ≡ true
  pub named : is_any_week w ≡ false

abbrev make_nth : ℕ × ℕ → WeekField
make_nth x = week_days.Nth x.0 x.1

week_set_variant : IsVariant week_days.Set one_byte (λ n. is_set DayOfWeek n ≡ true) (λ rest. as_variant week_days.Set (checked (is_set DayOfWeek) byte_at rest)) 1
week_set_variant = variant week_days.Set (narrow_byte (is_set DayOfWeek) (λ n h. omega (arith, set-below DayOfWeek n h, weekdays_fit)))

week_last_variant : IsVariant week_days.Last one_byte (λ n. is_value DayOfWeek n ≡ true) (λ rest. as_variant week_days.Last (checked (is_value DayOfWeek) byte_at rest)) 1
week_last_variant = variant week_days.Last weekday_format

nth_variant : IsVariant make_nth (λ (x : ℕ × ℕ). one_byte x.0 ++ one_byte x.1) (λ (x : ℕ × ℕ). Both (is_value DayOfWeek x.0 ≡ true) ((nat_le 1 x.1 && nat_le x.1 5) ≡ true)) nth_at 2
unfolding nth_at
nth_variant = read_so nth_at (variant make_nth (pair weekday_format (narrow_byte (λ n. nat_le 1 n && nat_le n 5) (λ n h. grind arith)))) (λ bytes. regroup make_nth (checked (is_value DayOfWeek) byte_at bytes) (λ day. checked (λ n. nat_le 1 n && nat_le n 5) byte_at day.1) _ (λ day. refl))

week_choices : Choices WeekField
week_choices =
    (1, λ rest. as_variant week_days.Set (checked (is_set DayOfWeek) byte_at rest))
    ∷ (2, λ rest. as_variant week_days.Last (checked (is_value DayOfWeek) byte_at rest))
    ∷ (3, nth_at)
    ∷ []

named_again : (w : WeekField) (rest : List ℕ) → IsNamed w → named_week_at (week_field w ++ rest) ≡ Ok (w, rest)
unfolding named_week_at byte_at week_field is_week_field
named_again week_days.Any rest is = absurd (let no = is.named in cc)
named_again (week_days.Set set) rest is = week_set_variant.again set rest is.valid
named_again (week_days.Last day) rest is = week_last_variant.again day rest is.valid
named_again (week_days.Nth day nth) rest is = nth_variant.again (day, nth) rest (parts_true _ _ is.valid)

named_week_format : IsFormat week_field Any IsNamed named_week_at 3
unfolding named_week_at byte_at week_field is_week_field week_choices
named_week_format = tagged 2 week_choices (
  part 1 week_set_variant (omega arith) (λ x. refl) (λ x is. record { valid = is; named = refl }),
  (
    part 2 week_last_variant (omega arith) (λ x. refl) (λ x is. record { valid = is; named = refl }),
    (part 3 nth_variant (omega arith) (λ x. refl) (λ x is. record { valid = rw (is.first, is.others) refl; named = refl }), tt),
  ),
)
    refl (λ b bytes. refl) named_again

any_choices : Choices WeekField
any_choices = (0, λ rest. Ok (week_days.Any, rest)) ∷ []

pub record IsUnnamed (w : WeekField) : Type 0 where
  pub valid : is_week_field w ≡ true
  pub any : is_any_week w ≡ true

any_again : (w : WeekField) (rest : List ℕ) → IsUnnamed w → any_week_at (week_field w ++ rest) ≡ Ok (w, rest)
unfolding any_week_at byte_at week_field
any_again week_days.Any rest is = refl
any_again (week_days.Set set) rest is = absurd (let no = is.any in cc)
any_again (week_days.Last day) rest is = absurd (let no = is.any in cc)
any_again (week_days.Nth day nth) rest is = absurd (let no = is.any in cc)

any_week_format : IsFormat week_field Any IsUnnamed any_week_at 1
unfolding any_week_at byte_at week_field is_week_field any_choices
any_week_format = tagged 0 any_choices (bare 0 week_days.Any refl (record { valid = refl; any = refl }), tt) refl (λ b bytes. refl) any_again

-- the days of the week, where the month's days say nothing or not
pub record IsBeside (b : Bool) (w : WeekField) : Type 0 where
  pub valid : is_week_field w ≡ true
  pub one : is_any_week w ≡ not b

week_format : (b : Bool) → IsFormat week_field Any (IsBeside b) (λ bytes. cond b (named_week_at bytes) (any_week_at bytes)) 3
week_format true = same {Is' = IsBeside true} named_week_format (λ w k. refl) (λ w k p. record { valid = p.valid; one = p.named }) (λ w k p. record { valid = p.valid; named = p.one })
week_format false = same {Is' = IsBeside false} (wider (omega arith) any_week_format) (λ w k. refl) (λ w k p. record { valid = p.valid; one = p.any }) (λ w k p. record { valid = p.valid; any = p.one })

-- ---- years

-- a format of values of which something is known, as one of all values
known_too : {A : Type 0} {write : A → List ℕ} {Known Is : A → Type 0} {read : List ℕ → Read A} {m : ℕ} → IsFormat write Known Is read m → IsFormat write Any (λ x. Both (Known x) (Is x)) read m
known_too f = record {
  again = λ x rest any is. f.again x rest is.first is.others;
  takes = λ bytes x fits e.
      let t = f.takes bytes x fits e in
      record { parts = t.parts; rest = t.rest; known = tt; valid = record { first = t.known; others = t.valid } };
  near = f.near;
}

abbrev word : ℕ → List ℕ → ℕ
word i ws = get_or ws i 0

-- years that the version has, of which there is one
abbrev is_years_of : Version → List ℕ → Bool
is_years_of version ws = has_years version ws && is_year_set ws

-- a third word that fits, and has no bit beyond the version's last year
abbrev IsThird : Version → ℕ → Type 0
IsThird version w = Passes (λ n. n < 2 ^ 64) (has_third_word version) w

pub record IsFour (version : Version) (ws : List ℕ) : Type 0 where
  pub first : word 0 ws < 2 ^ 64
  pub second : word 1 ws < 2 ^ 64
  pub third : IsThird version (word 2 ws)
  pub all : is_years_of version (word 0 ws ∷ word 1 ws ∷ word 2 ws ∷ word 3 ws ∷ []) ≡ true

fourth_below : (a b c d : ℕ) → is_year_set (a ∷ b ∷ c ∷ d ∷ []) ≡ true → d < 2 ^ 64
unfolding is_year_set size
fourth_below a b c d h =
    let both = parts_true (has_some (a ∷ b ∷ c ∷ d ∷ [])) (is_within_words 230 (a ∷ b ∷ c ∷ d ∷ [])) h in
    let from_first = parts_true (nat_lt a (2 ^ 64)) (is_within_words 166 (b ∷ c ∷ d ∷ [])) both.others in
    let from_second = parts_true (nat_lt b (2 ^ 64)) (is_within_words 102 (c ∷ d ∷ [])) from_first.others in
    let from_third = parts_true (nat_lt c (2 ^ 64)) (is_within_words 38 (d ∷ [])) from_second.others in
    let few : nat_lt d (2 ^ 38) ≡ true = (parts_true (nat_lt d (2 ^ 38)) true from_third.others).first in
    grind (arith, few)

abbrev IsFourLong : List ℕ → Type 0
IsFourLong ws = length ws ≡ 4

abbrev Known1 : ℕ → List ℕ → Type 0
Known1 a ws = Also (IsFourLong ws) (word 0 ws ≡ a)

abbrev Known2 : ℕ → ℕ → List ℕ → Type 0
Known2 a b ws = Also (Known1 a ws) (word 1 ws ≡ b)

abbrev Known3 : ℕ → ℕ → ℕ → List ℕ → Type 0
Known3 a b c ws = Also (Known2 a b ws) (word 2 ws ≡ c)

four_is : (a b c : ℕ) (ws : List ℕ) → Known3 a b c ws → a ∷ b ∷ c ∷ word 3 ws ∷ [] ≡ ws
four_is a b c (p ∷ q ∷ r ∷ s ∷ []) h = rw (← h.now, ← h.before.now, ← h.before.before.now) refl
four_is a b c [] h = absurd (let long = h.before.before.before in cc)
four_is a b c (p ∷ []) h = absurd (let long = h.before.before.before in cc)
four_is a b c (p ∷ q ∷ []) h = absurd (let long = h.before.before.before in cc)
four_is a b c (p ∷ q ∷ r ∷ []) h = absurd (let long = h.before.before.before in cc)
four_is a b c (p ∷ q ∷ r ∷ s ∷ t ∷ rest) h = absurd (let long = h.before.before.before in omega (arith, long))

words_are : (ws : List ℕ) → IsFourLong ws → number w64 (word 0 ws) ++ (number w64 (word 1 ws) ++ (number w64 (word 2 ws) ++ number w64 (word 3 ws))) ≡ words ws
unfolding words
words_are (p ∷ q ∷ r ∷ s ∷ []) long = ap (λ (t : List ℕ). number w64 p ++ (number w64 q ++ (number w64 r ++ t))) (sym (append-nil (number w64 s)))
words_are [] long = absurd cc
words_are (p ∷ []) long = absurd cc
words_are (p ∷ q ∷ []) long = absurd cc
words_are (p ∷ q ∷ r ∷ []) long = absurd cc
words_are (p ∷ q ∷ r ∷ s ∷ t ∷ rest) long = absurd (omega (arith, long))

pub record IsYears (version : Version) (ws : List ℕ) : Type 0 where
  pub long : length ws ≡ 4
  pub set : is_years_of version ws ≡ true

four_format : (version : Version) → IsFormat words IsFourLong (IsFour version) (years_at version) 32
unfolding years_at
four_format version = same {write' = words} {Is' = IsFour version}
    (field IsFourLong (word 0) (number_format wide64) (λ a.
    field (Known1 a) (word 1) (number_format wide64) (λ b.
    field (Known2 a b) (word 2) (those (has_third_word version) (number_format wide64)) (λ c. same {Is' = λ ws. is_years_of version (word 0 ws ∷ word 1 ws ∷ word 2 ws ∷ word 3 ws ∷ []) ≡ true}
    (last (Known3 a b c) (word 3) (narrowed wide64 (λ d. is_years_of version (a ∷ b ∷ c ∷ d ∷ [])) (λ d h. fourth_below a b c d (parts_true (has_years version (a ∷ b ∷ c ∷ d ∷ [])) (is_year_set (a ∷ b ∷ c ∷ d ∷ [])) h).others))
    (λ d. a ∷ b ∷ c ∷ d ∷ [])
    (λ d. record { before = record { before = record { before = refl; now = refl }; now = refl }; now = refl })
    (λ d. refl) (λ ws h. four_is a b c ws h))
    (λ ws h. refl)
    (λ ws h p. rw (h.now, h.before.now, h.before.before.now) p)
    (λ ws h p. rw (← h.now, ← h.before.now, ← h.before.before.now) p)))))
    (λ ws long. words_are ws long)
    (λ ws h p. record { first = p.first; second = p.others.first; third = p.others.others.first; all = p.others.others.others })
    (λ ws h p. record { first = p.first; others = record { first = p.second; others = record { first = p.third; others = p.all } } })

-- the first three words of a set of years
pub record AreWords (a b c : ℕ) : Type 0 where
  pub first : a < 2 ^ 64
  pub second : b < 2 ^ 64
  pub third : c < 2 ^ 64

words_below : (a b c d : ℕ) → is_year_set (a ∷ b ∷ c ∷ d ∷ []) ≡ true → AreWords a b c
unfolding is_year_set size
words_below a b c d h =
    let both = parts_true (has_some (a ∷ b ∷ c ∷ d ∷ [])) (is_within_words 230 (a ∷ b ∷ c ∷ d ∷ [])) h in
    let from_first = parts_true (nat_lt a (2 ^ 64)) (is_within_words 166 (b ∷ c ∷ d ∷ [])) both.others in
    let from_second = parts_true (nat_lt b (2 ^ 64)) (is_within_words 102 (c ∷ d ∷ [])) from_first.others in
    let from_third = parts_true (nat_lt c (2 ^ 64)) (is_within_words 38 (d ∷ [])) from_second.others in
    record { first = grind (arith, from_first.first); second = grind (arith, from_second.first); third = grind (arith, from_third.first) }

third_has : (version : Version) (a b c d : ℕ) → has_years version (a ∷ b ∷ c ∷ d ∷ []) ≡ true → has_third_word version c ≡ true
third_has Two a b c d h = refl
third_has One a b c d h =
    let from_first = parts_true (nat_lt a (2 ^ 64)) (is_within_words 66 (b ∷ c ∷ d ∷ [])) h in
    let from_second = parts_true (nat_lt b (2 ^ 64)) (is_within_words 2 (c ∷ d ∷ [])) from_first.others in
    (parts_true (nat_lt c (2 ^ 2)) (is_within_words 0 (d ∷ [])) from_second.others).first

four_words : (version : Version) (ws : List ℕ) → is_years_of version (word 0 ws ∷ word 1 ws ∷ word 2 ws ∷ word 3 ws ∷ []) ≡ true → IsFour version ws
four_words version ws h =
    let whole = word 0 ws ∷ word 1 ws ∷ word 2 ws ∷ word 3 ws ∷ [] in
    let both = parts_true (has_years version whole) (is_year_set whole) h in
    let below = words_below (word 0 ws) (word 1 ws) (word 2 ws) (word 3 ws) both.others in
    record { first = below.first; second = below.second; third = record { fits = below.third; passed = third_has version (word 0 ws) (word 1 ws) (word 2 ws) (word 3 ws) both.first }; all = h }

of_four : (ws : List ℕ) → IsFourLong ws → word 0 ws ∷ word 1 ws ∷ word 2 ws ∷ word 3 ws ∷ [] ≡ ws
of_four ws long = four_is (word 0 ws) (word 1 ws) (word 2 ws) ws (record { before = record { before = record { before = long; now = refl }; now = refl }; now = refl })

years_format : (version : Version) → IsFormat words Any (IsYears version) (years_at version) 32
years_format version = same {Is' = IsYears version} (known_too (four_format version)) (λ ws k. refl)
    (λ ws k p. record { long = p.first; set = subst (λ (zs : List ℕ). is_years_of version zs ≡ true) (of_four ws p.first) p.others.all })
    (λ ws k p. record { first = p.long; others = four_words version ws (subst (λ (zs : List ℕ). is_years_of version zs ≡ true) (sym (of_four ws p.long)) p.set) })

-- ---- all fields

pub record IsCronFields (version : Version) (f : CronFields) : Type 0 where
  pub valid : is_cron_fields f ≡ true
  pub long : length f.years ≡ 4
  pub known : has_years version f.years ≡ true

pub record AreFields (version : Version) (f : CronFields) : Type 0 where
  pub seconds : is_set Seconds f.seconds ≡ true
  pub minutes : is_set Minutes f.minutes ≡ true
  pub hours : is_set Hours f.hours ≡ true
  pub day : is_day_field f.day ≡ true
  pub months : is_set Month f.months ≡ true
  pub week : IsBeside (is_any_day f.day) f.week
  pub years : IsYears version f.years

just_one : (day week : Bool) → week ≡ not day → cond day (not week) week ≡ true
just_one true week e = rw e refl
just_one false week e = e

one_then : (day week : Bool) → cond day (not week) week ≡ true → week ≡ not day
one_then true true h = absurd cc
one_then true false h = refl
one_then false week h = h

fields-valid : (version : Version) (f : CronFields) → AreFields version f → IsCronFields version f
unfolding is_time_fields is_date_fields
fields-valid version f p =
    let one = just_one (is_any_day f.day) (is_any_week f.week) p.week.one in
    let years = parts_true (has_years version f.years) (is_year_set f.years) p.years.set in
    record { valid = rw (p.seconds, p.minutes, p.hours, p.day, p.months, p.week.valid, years.others, one) refl; long = p.years.long; known = years.first }

valid-fields : (version : Version) (f : CronFields) → IsCronFields version f → AreFields version f
unfolding is_time_fields is_date_fields
valid-fields version f is =
    let whole = parts_true (is_time_fields f) (is_date_fields f) is.valid in
    let time = parts_true (is_set Seconds f.seconds && is_set Minutes f.minutes) (is_set Hours f.hours) whole.first in
    let minutes = parts_true (is_set Seconds f.seconds) (is_set Minutes f.minutes) time.first in
    let date = parts_true (is_day_field f.day && is_set Month f.months && is_week_field f.week && is_year_set f.years) (cond (is_any_day f.day) (not (is_any_week f.week)) (is_any_week f.week)) whole.others in
    let years = parts_true (is_day_field f.day && is_set Month f.months && is_week_field f.week) (is_year_set f.years) date.first in
    let week = parts_true (is_day_field f.day && is_set Month f.months) (is_week_field f.week) years.first in
    let months = parts_true (is_day_field f.day) (is_set Month f.months) week.first in
    record {
      seconds = minutes.first;
      minutes = minutes.others;
      hours = time.others;
      day = months.first;
      months = months.others;
      week = record { valid = week.others; one = one_then (is_any_day f.day) (is_any_week f.week) date.others };
      years = record { long = is.long; set = rw (is.known, years.others) refl };
    }

abbrev After1 : ℕ → CronFields → Type 0
After1 seconds f = Also (Unit {0}) (f.seconds ≡ seconds)

abbrev After2 : ℕ → ℕ → CronFields → Type 0
After2 seconds minutes f = Also (After1 seconds f) (f.minutes ≡ minutes)

abbrev After3 : ℕ → ℕ → ℕ → CronFields → Type 0
After3 seconds minutes hours f = Also (After2 seconds minutes f) (f.hours ≡ hours)

abbrev After4 : ℕ → ℕ → ℕ → DayField → CronFields → Type 0
After4 seconds minutes hours day f = Also (After3 seconds minutes hours f) (f.day ≡ day)

abbrev After5 : ℕ → ℕ → ℕ → DayField → ℕ → CronFields → Type 0
After5 seconds minutes hours day months f = Also (After4 seconds minutes hours day f) (f.months ≡ months)

abbrev After6 : ℕ → ℕ → ℕ → DayField → ℕ → WeekField → CronFields → Type 0
After6 seconds minutes hours day months week f = Also (After5 seconds minutes hours day months f) (f.week ≡ week)

pub cron_fields_format : (version : Version) → IsFormat cron_fields Any (IsCronFields version) (cron_fields_at version) 62
unfolding cron_fields cron_fields_at
cron_fields_format version = same {write' = cron_fields} {Is' = IsCronFields version}
    (field (λ (f : CronFields). Unit {0}) (λ (f : CronFields). f.seconds) (set_format Seconds wide64 seconds_fit) (λ seconds.
    field (After1 seconds) (λ (f : CronFields). f.minutes) (set_format Minutes wide64 minutes_fit) (λ minutes.
    field (After2 seconds minutes) (λ (f : CronFields). f.hours) (set_format Hours wide32 hours_fit) (λ hours.
    field (After3 seconds minutes hours) (λ (f : CronFields). f.day) day_format (λ day.
    field (After4 seconds minutes hours day) (λ (f : CronFields). f.months) (set_format Month wide16 months_fit) (λ months. same {Is' = λ (f : CronFields). Both (IsBeside (is_any_day f.day) f.week) (IsYears version f.years)}
    (field (After5 seconds minutes hours day months) (λ (f : CronFields). f.week) (week_format (is_any_day day)) (λ week.
    last (After6 seconds minutes hours day months week) (λ (f : CronFields). f.years) (years_format version)
    (λ years. record { seconds = seconds; minutes = minutes; hours = hours; day = day; months = months; week = week; years = years })
    (λ years. record { before = record { before = record { before = record { before = record { before = record { before = tt; now = refl }; now = refl }; now = refl }; now = refl }; now = refl }; now = refl })
    (λ years. refl)
    (λ f h. rw (← h.now, ← h.before.now, ← h.before.before.now, ← h.before.before.before.now, ← h.before.before.before.before.now, ← h.before.before.before.before.before.now) refl)))
    (λ f h. refl)
    (λ f h p. record { first = subst (λ (d : DayField). IsBeside (is_any_day d) f.week) (sym h.before.now) p.first; others = p.others })
    (λ f h p. record { first = subst (λ (d : DayField). IsBeside (is_any_day d) f.week) h.before.now p.first; others = p.others })))))))
    (λ f h. refl)
    (λ f h p. fields-valid version f (record { seconds = p.first; minutes = p.others.first; hours = p.others.others.first; day = p.others.others.others.first; months = p.others.others.others.others.first; week = p.others.others.others.others.others.first; years = p.others.others.others.others.others.others }))
    (λ f h p.
    let q = valid-fields version f p in
    record { first = q.seconds; others = record { first = q.minutes; others = record { first = q.hours; others = record { first = q.day; others = record { first = q.months; others = record { first = q.week; others = q.years } } } } } })
