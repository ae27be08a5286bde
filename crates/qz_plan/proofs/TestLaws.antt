-- What the parts of the test of a fire time decide.
use Rattle.std.proofs.Common.{◌≡◌, ℕ, ◌*◌, ◌/◌, ◌%◌, Bool, true, false, not, refl, ℤ, pos, ◌<ℤ◌, ◌≤ℤ◌, unsigned_abs, List, Option, Some, None, arith}
use Rattle.std.specs.Prelude.{int_le, int_lt}
use Rattle.std.specs.Bool.{Decides}
use Rattle.std.specs.List.{list_all}
use Rattle.std.proofs.lemmas.Bool.Decides.{Decides-by_and}
use Rattle.std.proofs.lemmas.Int.{ints}
use Rattle.qz_civil.specs.Occurrences.{IsBefore}
use Rattle.qz_calendar.specs.Chains.{ZonedCalendar, Included, excludes_at}
use Rattle.qz_plan.specs.Plan.{is_before, is_up_to, is_whole_second}
use Rattle.qz_plan.specs.Schedule.{IsUpTo}

pub int_le-decides : (a b : ℤ) → Decides (int_le a b) (a ≤ℤ b)
int_le-decides a b = (λ h. grind (arith, ints), λ h. grind (arith, ints))

pub int_lt-decides : (a b : ℤ) → Decides (int_lt a b) (a <ℤ b)
int_lt-decides a b = (λ h. grind (arith, ints), λ h. grind (arith, ints))

pub true-decides : (b : Bool) → Decides b (b ≡ true)
true-decides b = (λ h. h, λ h. h)

false-decides : (b : Bool) → Decides (not b) (b ≡ false)
false-decides true = (λ h. cc, λ h. cc)
false-decides false = (λ h. refl, λ h. refl)

pub is_before-decides : (end : Option ℤ) (t : ℤ) → Decides (is_before end t) (IsBefore end t)
is_before-decides None t = (λ h. tt, λ h. refl)
is_before-decides (Some end) t = int_lt-decides t end

pub is_up_to-decides : (end : Option ℤ) (t : ℤ) → Decides (is_up_to end t) (IsUpTo end t)
is_up_to-decides None t = (λ h. tt, λ h. refl)
is_up_to-decides (Some end) t = int_le-decides t end

-- t is a whole number of seconds
pub record IsWhole (t : ℤ) : Type 0 where
  pub second : ℕ
  pub whole : t ≡ pos (second * 1000)

rounded : (t : ℤ) → pos 0 ≤ℤ t → is_whole_second t ≡ true → IsWhole t
rounded t low h =
    let whole : unsigned_abs t % 1000 ≡ 0 = grind arith in
    record { second = unsigned_abs t / 1000; whole = omega (arith, ints) }

whole : (t : ℤ) → IsWhole t → is_whole_second t ≡ true
whole t is =
    let at = is.whole in
    let rest : unsigned_abs t % 1000 ≡ 0 = omega (arith, ints) in
    grind arith

pub is_whole_second-decides : (t : ℤ) → pos 0 ≤ℤ t → Decides (is_whole_second t) (IsWhole t)
is_whole_second-decides t low = (rounded t low, whole t)

pub included-decides : (chain : List ZonedCalendar) (t : ℤ) → Decides (list_all (λ calendar. not (excludes_at calendar t)) chain) (Included chain t)
included-decides chain t =
    Decides-by_and (λ calendar. not (excludes_at calendar t)) (λ calendar. excludes_at calendar t ≡ false) (list_all (λ calendar. not (excludes_at calendar t)))
    (λ calendar. false-decides (excludes_at calendar t)) refl (λ calendar rest. refl) chain
