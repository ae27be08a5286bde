-- The next time of a trigger that is moved.
use Rattle.std.proofs.Common.{ℕ, ◌-◌, ℤ, pos, negsuc, ◌||◌, Bool, true, false, Option, Some, None, IfSome, if◌then◌else◌}
use Rattle.std.specs.Prelude.{unsigned_abs}
use Rattle.std.specs.Ordering.{int_eq}
use Rattle.qz_civil.specs.declared.timings.Moved.{Moved}
use Rattle.qz_civil.specs.declared.timings.Timing.{Timing}
use Rattle.qz_misfire.specs.declared.effects.Effect.{Effect}
use Rattle.qz_misfire.specs.declared.effects.Effect.TheVariants as effect
use Rattle.qz_misfire.specs.Effects.{effect_of, is_over, count_of, interval_of}
use Rattle.qz_misfire.specs.Table.{missed, resumed, restarted, unless_over, by_effect, moved}

either_next : (P : ℤ → Type 0) (b : Bool) (x y : Moved) → IfSome x.next P → IfSome y.next P → IfSome (if b then x else y).next P
either_next P true x y first second = first
either_next P false x y first second = second

-- It is now, a later fire time, or none.
module _ (P : ℤ → Type 0) (timing : Timing) (later : Option ℤ) (next : ℤ) (times : ℕ) (now : ℤ) (now_is : P now) (later_is : IfSome later P) where
  unless_over-next : (fires : Moved) → IfSome fires.next P → IfSome (unless_over timing times now fires).next P
  unless_over-next fires is = either_next P (is_over timing.kind timing.end now) (resumed timing None times) fires tt is

  restarted-next : (fewer : ℕ) → IfSome (restarted timing times now fewer).next P
  unfolding restarted
  restarted-next fewer =
      either_next P (int_eq (count_of timing.kind) (negsuc 0) || int_eq (count_of timing.kind) (pos 0)) (record { start = now; next = Some now; count = count_of timing.kind; times = times })
      (record { start = now; next = Some now; count = pos (unsigned_abs (count_of timing.kind) - times - fewer); times = 0 }) now_is now_is

  by_effect-next : (e : Effect) → IfSome (by_effect e timing later next times now).next P
  by_effect-next effect.FireNow = unless_over-next (resumed timing (Some now) times) now_is
  by_effect-next effect.Restart = unless_over-next (restarted timing times now 0) (restarted-next 0)
  by_effect-next effect.RestartWithoutMissed = unless_over-next (restarted timing times now (missed (interval_of timing.kind) next now)) (restarted-next (missed (interval_of timing.kind) next now))
  by_effect-next effect.ResumeCountingMissed = later_is
  by_effect-next effect.Resume = later_is

  pub moved-next : IfSome (moved timing later next times now).next P
  moved-next = by_effect-next (effect_of timing.kind timing.misfire)
