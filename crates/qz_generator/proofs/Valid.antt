-- What is made is within its limits.
use Rattle.std.proofs.Common.{◌≡◌, ℕ, ◌*◌, ◌%◌, ◌<◌, ◌^◌, [], ◌∷◌, true, ◌&&◌, nat_lt, Result, Ok, Err, IfOk, IsTrue, lit<, refl, sym, ap, ◌∙◌, subst, arith}
use Rattle.std.proofs.Math.Pow.{pow-lt}
use Rattle.std.proofs.lemmas.Bool.Decides.{nat_tests}
use Rattle.std.proofs.lemmas.Fmt.{length-decimal-le}
use Rattle.std.proofs.lemmas.Nat.{one_shl, pow_pos}
use Rattle.qz_civil.specs.declared.fields.CronFields.{CronFields}
use Rattle.qz_civil.specs.declared.fields.DayField.TheVariants as days
use Rattle.qz_civil.specs.declared.fields.WeekField.TheVariants as weeks
use Rattle.qz_civil.specs.Fields.{is_cron_fields, is_time_fields, is_date_fields, is_set, size, is_day_field, is_week_field, is_year_set}
use Rattle.qz_civil.specs.Timings.{is_daily_time, is_step, seconds}
use Rattle.qz_civil.specs.declared.timings.Unit.TheVariants.{Minute}
use Rattle.qz_types.specs.Rows.{is_key}
use Rattle.qz_types.specs.declared.keys.Key.{Key}
use Rattle.qz_generator.specs.Choices.{is_up_to}
use Rattle.qz_generator.specs.Commands.{numbered, daily_fields}

-- a letter and a number are a name
pub key_valid : (letter n : ℕ) → n < 2 ^ 32 → is_key (numbered letter n) ≡ true
key_valid letter n small = grind (arith, nat_tests, length-decimal-le 20 n (lit< tt) (omega arith) (omega arith))

-- one bit, within a set
power_within : (k n : ℕ) → k < n → (nat_lt 0 (2 ^ k) && nat_lt (2 ^ k) (2 ^ n)) ≡ true
power_within k n within = let some : 0 < 2 ^ k = pow_pos k in let below : 2 ^ k < 2 ^ n = pow-lt within in grind (arith, nat_tests)

pub fields_valid : (minute hour : ℕ) → minute < 60 → hour < 24 → is_cron_fields (daily_fields minute hour) ≡ true
unfolding daily_fields is_time_fields is_date_fields is_set size is_day_field is_week_field is_year_set
fields_valid minute hour minutes hours = rw (power_within minute 60 minutes, power_within hour 24 hours) refl

-- the fields with these sets of minutes and hours
abbrev with_sets : ℕ → ℕ → CronFields
with_sets minutes hours = record {
  seconds = 1;
  minutes = minutes;
  hours = hours;
  day = days.Set 2147483647;
  months = 4095;
  week = weeks.Any;
  years = 18446744073709551615 ∷ 18446744073709551615 ∷ 18446744073709551615 ∷ 274877906943 ∷ [];
}

-- the fields as they are made, by bits that are shifted within their words
pub made_fields : (minute hour : ℕ) → minute < 60 → hour < 24 → is_cron_fields (with_sets (1 * 2 ^ minute % 2 ^ 64) (1 * 2 ^ hour % 2 ^ 32)) ≡ true
unfolding daily_fields
made_fields minute hour minutes hours =
    ap (λ (set : ℕ). is_cron_fields (with_sets set (1 * 2 ^ hour % 2 ^ 32))) (one_shl minute 64 (omega arith))
    ∙ ap (λ (set : ℕ). is_cron_fields (with_sets (2 ^ minute) set)) (one_shl hour 32 (omega arith))
    ∙ fields_valid minute hour minutes hours

-- so is a key that is of this letter and this number
pub key_of : {E : Type 0} (letter n : ℕ) (made : Result Key E) → n < 2 ^ 32 → IfOk made (λ key. key ≡ numbered letter n) → IfOk made (λ key. IsTrue (is_key key))
key_of letter n (Ok key) small is = subst (λ (k : Key). is_key k ≡ true) (sym is) (key_valid letter n small)
key_of letter n (Err e) small is = is

-- a step of up to 720 minutes may be one of a day
pub daily_valid : (minutes : ℕ) → is_up_to 720 minutes ≡ true → is_daily_time Minute minutes 0 86399 ≡ true
unfolding is_step seconds
daily_valid minutes is = grind (arith, nat_tests)
