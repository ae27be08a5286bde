-- Chains of calendars, step by step.
use Rattle.std.proofs.Common.{◌≡◌, ℕ, zero, suc, ◌-◌, ◌<◌, List, true, false, Some, None, refl, sym, ap, ◌∙◌, arith}
use Rattle.qz_types.specs.Rows.{CalendarData}
use Rattle.qz_types.specs.Chains.{calendar_named, ends_within}

less_one : (n : ℕ) → suc n - 1 ≡ n
less_one n = omega arith

pub never_ends : (calendars : List CalendarData) (n : ℕ) (c : CalendarData) → n ≡ 0 → ends_within calendars n (Some c) ≡ false
unfolding ends_within
never_ends calendars zero c none = refl
never_ends calendars (suc n) c none = absurd (omega arith)

pub ends_next : (calendars : List CalendarData) (n : ℕ) (c d : CalendarData) → 0 < n → Some d ≡ calendar_named calendars c.base → ends_within calendars n (Some c) ≡ ends_within calendars (n - 1) (Some d)
unfolding ends_within
ends_next calendars zero c d some next = absurd (omega arith)
ends_next calendars (suc n) c d some next = ap (ends_within calendars n) (sym next) ∙ sym (ap (λ k. ends_within calendars k (Some d)) (less_one n))

ends_none : (calendars : List CalendarData) (n : ℕ) → ends_within calendars n None ≡ true
unfolding ends_within
ends_none calendars zero = refl
ends_none calendars (suc n) = refl

pub ends_here : (calendars : List CalendarData) (n : ℕ) (c : CalendarData) → 0 < n → None ≡ calendar_named calendars c.base → ends_within calendars n (Some c) ≡ true
unfolding ends_within
ends_here calendars zero c some next = absurd (omega arith)
ends_here calendars (suc n) c some next = ap (ends_within calendars n) (sym next) ∙ ends_none calendars n
