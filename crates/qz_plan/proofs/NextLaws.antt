-- The next one of a set, and of parts of it.
use Rattle.std.proofs.Common.{◌≡◌, inl, inr, true, false, ℤ, pos, ◌+ℤ◌, ◌≤ℤ◌, ◌<ℤ◌, List, Option, Some, None, arith}
use Rattle.std.specs.Prelude.{int_le}
use Rattle.std.proofs.lemmas.Bool.{cases_Bool}
use Rattle.std.proofs.lemmas.Int.{ints}
use Rattle.qz_civil.specs.declared.fields.CronFields.{CronFields}
use Rattle.qz_civil.specs.declared.limits.TheConstants.{LAST}
use Rattle.qz_civil.specs.declared.stretches.Stretch.{Stretch}
use Rattle.qz_civil.specs.Least.{IsNext}
use Rattle.qz_cron.specs.Moments.{IsMatch}
use Rattle.qz_plan.specs.Schedule.{IsUpTo, up_to, IsCron, start_second}

-- sets with the same members have the same next one
pub IsNext-same : (P Q : ℤ → Type 0) → ((t : ℤ) → P t → Q t) → ((t : ℤ) → Q t → P t) → (after : ℤ) (r : Option ℤ) → IsNext LAST P after r → IsNext LAST Q after r
IsNext-same P Q to from after None next = λ s member later within. next s (from s member) later within
IsNext-same P Q to from after (Some t) next = record {
  member = to t next.member;
  later = next.later;
  within = next.within;
  least = λ s member later. next.least s (from s member) later;
}

-- from a first timestamp on
pub IsNext-from : (P : ℤ → Type 0) (first after from : ℤ) (r : Option ℤ) → after ≤ℤ from → first ≤ℤ (from +ℤ pos 1) → ((s : ℤ) → after <ℤ s → first ≤ℤ s → from <ℤ s)
    → IsNext LAST P from r → IsNext LAST (λ t. P t × (first ≤ℤ t)) after r
IsNext-from P first after from None low high ahead next = λ s member later within. next s member.0 (ahead s later member.1) within
IsNext-from P first after from (Some t) low high ahead next = record {
  member = (next.member, omega (arith, ints, next.later, high));
  later = omega (arith, ints, next.later, low);
  within = next.within;
  least = λ s member later. next.least s member.0 (ahead s later member.1);
}

-- nothing comes from a first timestamp on that is past the last one
pub IsNext-past : (P : ℤ → Type 0) (first after : ℤ) → LAST <ℤ first → IsNext LAST (λ t. P t × (first ≤ℤ t)) after None
IsNext-past P first after past = λ s member later within. omega (arith, ints, member.1, within, past)

-- up to the end
IsNext-kept : (P : ℤ → Type 0) (end : Option ℤ) (after t : ℤ) → IsUpTo end t → IsNext LAST P after (Some t) → IsNext LAST (λ s. P s × IsUpTo end s) after (Some t)
IsNext-kept P end after t before next = record {
  member = (next.member, before);
  later = next.later;
  within = next.within;
  least = λ s member later. next.least s member.0 later;
}

IsNext-none : (P : ℤ → Type 0) (end : Option ℤ) (after : ℤ) → IsNext LAST P after None → IsNext LAST (λ s. P s × IsUpTo end s) after None
IsNext-none P end after next = λ s member later within. next s member.0 later within

IsNext-gone : (P : ℤ → Type 0) (end after t : ℤ) → end <ℤ t → IsNext LAST P after (Some t) → IsNext LAST (λ s. P s × IsUpTo (Some end) s) after None
IsNext-gone P end after t past next = λ s member later within. omega (arith, ints, next.least s member.0 later, member.1, past)

le_true : (a b : ℤ) → int_le a b ≡ true → a ≤ℤ b
le_true a b is = grind (arith, ints)

le_false : (a b : ℤ) → int_le a b ≡ false → b <ℤ a
le_false a b is = grind (arith, ints)

pub IsNext-up_to : (P : ℤ → Type 0) (end : Option ℤ) (after : ℤ) (found : Option ℤ) → IsNext LAST P after found → IsNext LAST (λ s. P s × IsUpTo end s) after (up_to end found)
IsNext-up_to P None after None next = IsNext-none P None after next
IsNext-up_to P None after (Some t) next = IsNext-kept P None after t tt next
IsNext-up_to P (Some end) after None next = IsNext-none P (Some end) after next
IsNext-up_to P (Some end) after (Some t) next = elim (cases_Bool (int_le t end)) [
  | inl is ↦ rw is (IsNext-kept P (Some end) after t (le_true t end is) next)
  | inr isnt ↦ rw isnt (IsNext-gone P end after t (le_false t end isnt) next)
]

-- the parts of a cron trigger's schedule
pub IsNext-cron : (fields : CronFields) (zone : List Stretch) (start : ℤ) (end : Option ℤ) (after : ℤ) (r : Option ℤ)
    → IsNext LAST (λ t. (IsMatch fields zone t × (start_second start ≤ℤ t)) × IsUpTo end t) after r → IsNext LAST (IsCron fields zone start end) after r
IsNext-cron fields zone start end after r next =
    IsNext-same (λ t. (IsMatch fields zone t × (start_second start ≤ℤ t)) × IsUpTo end t) (IsCron fields zone start end)
    (λ t parts. record { meets = parts.0.0; started = parts.0.1; before = parts.1 }) (λ t cron. ((cron.meets, cron.started), cron.before)) after r next
