-- The misfire table: what a misfire that is handled at `now` makes of a trigger. Times are in ms.
use Rattle.std.specs.Prelude.{◌||◌, if◌then◌else◌, ℕ, ◌+◌, ◌-◌, ◌/◌, ◌^◌, min, ℤ, pos, negsuc, ◌-ℤ◌, Option, None, Some, unsigned_abs}
use Rattle.std.specs.Ordering.{int_eq}
use Rattle.qz_civil.specs.declared.timings.Timing.{Timing}
use Rattle.qz_civil.specs.declared.timings.Moved.{Moved}
use Rattle.qz_misfire.specs.declared.effects.Effect.{Effect}
use Rattle.qz_misfire.specs.declared.effects.Effect.TheVariants.{FireNow, Restart, RestartWithoutMissed, ResumeCountingMissed, Resume}
use Rattle.qz_misfire.specs.Effects.{effect_of, is_over, count_of, interval_of}

-- how often the interval has passed from a to b; 0 where it is 0
unfoldable pub missed : ℤ → ℤ → ℤ → ℕ
missed interval a b = unsigned_abs (b -ℤ a) / unsigned_abs interval

-- what counts as fired once the trigger resumes at its later fire time: also what it missed until then, up to 2 ^ 63
unfoldable pub counting_missed : Timing → ℤ → ℕ → Option ℤ → ℕ
counting_missed timing next times None = times
counting_missed timing next times (Some later) = min (times + missed (interval_of timing.kind) next later) (2 ^ 63)

-- nothing changes but the next fire time and how often it has fired
abbrev pub resumed : Timing → Option ℤ → ℕ → Moved
resumed timing next times = record { start = timing.start; next = next; count = count_of timing.kind; times = times }

-- The schedule begins anew now, with the firings that are left after those that it did and these fewer. A trigger that fires
-- once or without end keeps its count and how often it has fired.
unfoldable pub restarted : Timing → ℕ → ℤ → ℕ → Moved
restarted timing times now fewer =
    if int_eq (count_of timing.kind) (negsuc 0) || int_eq (count_of timing.kind) (pos 0)
    then record { start = now; next = Some now; count = count_of timing.kind; times = times }
    else record { start = now; next = Some now; count = pos (unsigned_abs (count_of timing.kind) - times - fewer); times = 0 }

-- it fires now, unless its end has come: then it never fires again, and all else stays
abbrev pub unless_over : Timing → ℕ → ℤ → Moved → Moved
unless_over timing times now fires = if is_over timing.kind timing.end now then resumed timing None times else fires

-- a row for each effect; `later` is the least fire time after now
abbrev pub by_effect : Effect → Timing → Option ℤ → ℤ → ℕ → ℤ → Moved
by_effect FireNow timing later next times now = unless_over timing times now (resumed timing (Some now) times)
by_effect Restart timing later next times now = unless_over timing times now (restarted timing times now 0)
by_effect RestartWithoutMissed timing later next times now =
    unless_over timing times now (restarted timing times now (missed (interval_of timing.kind) next now))
by_effect ResumeCountingMissed timing later next times now = resumed timing later (counting_missed timing next times later)
by_effect Resume timing later next times now = resumed timing later times

abbrev pub moved : Timing → Option ℤ → ℤ → ℕ → ℤ → Moved
moved timing later next times now = by_effect (effect_of timing.kind timing.misfire) timing later next times now
