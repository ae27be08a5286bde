-- What a misfire may change: the start to a timestamp, the count of a trigger that fires more than once to a smaller one.
use Rattle.std.proofs.Common.{◌≡◌, ◌⊎◌, inl, inr, refl, Bool, true, false, ℕ, ◌-◌, ◌≤◌, ◌^◌, ◌||◌, if◌then◌else◌, ℤ, pos, negsuc, ◌≤ℤ◌, unsigned_abs, Option, Some, None, IfSome, arith}
use Rattle.std.specs.Ordering.{int_eq}
use Rattle.qz_civil.specs.declared.limits.TheConstants.{LAST}
use Rattle.qz_civil.specs.declared.timings.Moved.{Moved}
use Rattle.qz_civil.specs.declared.timings.Timing.{Timing}
use Rattle.qz_misfire.specs.declared.effects.Effect.{Effect}
use Rattle.qz_misfire.specs.declared.effects.Effect.TheVariants.{FireNow, Restart, RestartWithoutMissed, ResumeCountingMissed, Resume}
use Rattle.qz_misfire.specs.Effects.{count_of, effect_of, interval_of, is_over}
use Rattle.qz_misfire.specs.Table.{by_effect, counting_missed, missed, moved, restarted, resumed, unless_over}

abbrev pub IsTimestamp : ℤ → Type 0
IsTimestamp t = (pos 0 ≤ℤ t) × (t ≤ℤ LAST)

-- a trigger that fires more than once, but not without end, fires this often or less
pub record IsFewer (count left : ℤ) : Type 0 where
  pub endless : int_eq count (negsuc 0) ≡ false
  pub once : int_eq count (pos 0) ≡ false
  pub number : ℕ
  pub is : left ≡ pos number
  pub fewer : number ≤ unsigned_abs count

pub record IsMove (timing : Timing) (move : Moved) : Type 0 where
  pub start : (move.start ≡ timing.start) ⊎ IsTimestamp move.start
  pub count : (move.count ≡ count_of timing.kind) ⊎ IsFewer (count_of timing.kind) move.count
  pub times : move.times ≤ 2 ^ 63
  pub next : IfSome move.next IsTimestamp

module _ (timing : Timing) (times : ℕ) (few : times ≤ 2 ^ 63) where
  -- The schedule goes on.
  resumed-move : (next : Option ℤ) (fired : ℕ) → fired ≤ 2 ^ 63 → IfSome next IsTimestamp → IsMove timing (resumed timing next fired)
  resumed-move next fired within known = record { start = inl refl; count = inl refl; times = within; next = known }

  -- It begins anew.
  again : (left : ℕ) (now : ℤ) → IsTimestamp now → left ≤ unsigned_abs (count_of timing.kind) → (b : Bool) → (int_eq (count_of timing.kind) (negsuc 0) || int_eq (count_of timing.kind) (pos 0)) ≡ b
      → IsMove timing (if b then record { start = now; next = Some now; count = count_of timing.kind; times = times } else record { start = now; next = Some now; count = pos left; times = 0 })
  again left now known le true same = record { start = inr known; count = inl refl; times = few; next = known }
  again left now known le false less = record {
    start = inr known;
    count = inr (record { endless = grind arith; once = grind arith; number = left; is = refl; fewer = le });
    times = omega arith;
    next = known;
  }

  restarted-move : (now : ℤ) (fewer : ℕ) → IsTimestamp now → IsMove timing (restarted timing times now fewer)
  unfolding restarted
  restarted-move now fewer known = again (unsigned_abs (count_of timing.kind) - times - fewer) now known (omega arith) _ refl

  over_or : (now : ℤ) (fires : Moved) → IsMove timing fires → (b : Bool) → IsMove timing (if b then resumed timing None times else fires)
  over_or now fires move true = resumed-move None times few tt
  over_or now fires move false = move

  unless_over-move : (now : ℤ) (fires : Moved) → IsMove timing fires → IsMove timing (unless_over timing times now fires)
  unless_over-move now fires move = over_or now fires move (is_over timing.kind timing.end now)

  counted-few : (next : ℤ) (later : Option ℤ) → counting_missed timing next times later ≤ 2 ^ 63
  unfolding counting_missed
  counted-few next None = few
  counted-few next (Some later) = omega arith

  effect-move : (effect : Effect) (later : Option ℤ) (next now : ℤ) → IsTimestamp now → IfSome later IsTimestamp → IsMove timing (by_effect effect timing later next times now)
  effect-move FireNow later next now known after = unless_over-move now (resumed timing (Some now) times) (resumed-move (Some now) times few known)
  effect-move Restart later next now known after = unless_over-move now (restarted timing times now 0) (restarted-move now 0 known)
  effect-move RestartWithoutMissed later next now known after =
      unless_over-move now (restarted timing times now (missed (interval_of timing.kind) next now)) (restarted-move now (missed (interval_of timing.kind) next now) known)
  effect-move ResumeCountingMissed later next now known after = resumed-move later (counting_missed timing next times later) (counted-few next later) after
  effect-move Resume later next now known after = resumed-move later times few after

  pub moved-move : (later : Option ℤ) (next now : ℤ) → IsTimestamp now → IfSome later IsTimestamp → IsMove timing (moved timing later next times now)
  moved-move later next now known after = effect-move (effect_of timing.kind timing.misfire) later next now known after
