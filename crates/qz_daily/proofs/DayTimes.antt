-- The first time of a day is a turn of the step.
use Rattle.std.proofs.Common.{◌≡◌, ℕ, ◌+◌, ◌-◌, ◌*◌, ◌/◌, ◌%◌, ◌<◌, ◌≤◌, min, true, arith}
use Rattle.std.proofs.Math.Nat.{mul-mod_left}
use Rattle.std.proofs.lemmas.Bool.{false_from_ne_true}
use Rattle.std.proofs.lemmas.Nat.{mul-le, div-add-mod'}
use Rattle.qz_civil.specs.Least.{IsLeastIn, NoneIn}
use Rattle.qz_civil.specs.Occurrences.{IsOccurrence}
use Rattle.qz_daily.specs.declared.patterns.Pattern.{Pattern}
use Rattle.qz_daily.specs.Timestamps.{is_time}

-- the second is `from` or some steps later, up to `to`
pub record IsTime (p : Pattern) (second : ℕ) : Type 0 where
  pub low : p.from ≤ second
  pub high : second ≤ p.to
  pub stepped : (second - p.from) % p.step ≡ 0

time-parts : (p : Pattern) (second : ℕ) → is_time p second ≡ true → IsTime p second
unfolding is_time
time-parts p second h = record { low = grind arith; high = grind arith; stepped = grind arith }

is_time-turn : (p : Pattern) (k : ℕ) → p.from + k * p.step ≤ p.to → is_time p (p.from + k * p.step) ≡ true
unfolding is_time
is_time-turn p k le =
    let steps : p.from + k * p.step - p.from ≡ k * p.step = omega arith in
    rw (steps, mul-mod_left k p.step) (grind arith)

-- no time from the floor on comes before the first turn
turn-least : (p : Pattern) (floor k second : ℕ) → IsOccurrence p.from p.step floor k → floor ≤ second → is_time p second ≡ true → p.from + k * p.step ≤ second
turn-least p floor k second turn reach h =
    let time = time-parts p second h in
    let steps : ℕ = (second - p.from) / p.step in
    let at : second ≡ p.from + steps * p.step = omega (arith, time.low, time.stepped, div-add-mod' (second - p.from) p.step) in
    let after : k ≤ steps = turn.first steps (omega (arith, at)) in
    omega (arith, at, mul-le k p.step steps p.step after (omega arith))

-- the turn is the first time, where it isn't too late
pub first-time : (p : Pattern) (floor k time end : ℕ) → IsOccurrence p.from p.step floor k → time ≡ p.from + k * p.step → time ≤ p.to → time < end → IsLeastIn (is_time p) floor end time
first-time p floor k time end turn at le lt = record {
  low = (let reached = turn.reached in omega arith);
  high = lt;
  passes = rw at (is_time-turn p k (omega arith));
  none = λ s from to. false_from_ne_true (is_time p s) (λ h. let late = turn-least p floor k s turn from h in omega arith);
}

pub none-late : (p : Pattern) (floor k end : ℕ) → IsOccurrence p.from p.step floor k → min end (p.to + 1) ≤ p.from + k * p.step → NoneIn (is_time p) floor end
none-late p floor k end turn late s from to = false_from_ne_true (is_time p s) (λ h.
    let over = turn-least p floor k s turn from h in
    let time = time-parts p s h in
    omega (arith, over, time.high))

pub none-turns : (p : Pattern) (floor end : ℕ) → ((j : ℕ) → floor ≤ p.from + j * p.step → ⊥) → NoneIn (is_time p) floor end
none-turns p floor end none s from to = false_from_ne_true (is_time p s) (λ h.
    let time = time-parts p s h in
    let at : s ≡ p.from + (s - p.from) / p.step * p.step = omega (arith, time.low, time.stepped, div-add-mod' (s - p.from) p.step) in
    none ((s - p.from) / p.step) (omega (arith, at)))
