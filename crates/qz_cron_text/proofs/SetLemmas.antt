-- Sets of numbers as bits.
use Rattle.std.proofs.Common.{◌≡◌, ◌∙◌, ap, refl, ℕ, ◌+◌, ◌*◌, ◌<◌, ◌≤◌, ◌^◌, ◌%◌, Bool, true, false, arith, zero, suc, cond, add-one, lit<}
use Rattle.std.specs.Prelude.{bit_or}
use Rattle.std.proofs.lemmas.Nat.{or_comm, or_shifted, one_shl, pow_pos}
use Rattle.std.proofs.Math.Nat.{pow-suc, pow-le-pow_right}
use Rattle.qz_civil.specs.declared.fields.Field.{Field}
use Rattle.qz_cron_text.specs.declared.runs.Run.{Run}
use Rattle.qz_civil.specs.Fields.{size}
use Rattle.qz_cron_text.specs.Runs.{has_value}
use Rattle.qz_cron_text.specs.Sets.{set_of}

pub set_of-lt : (test : ℕ → Bool) (n : ℕ) → set_of test n < 2 ^ n
unfolding set_of
set_of-lt test zero = omega arith
set_of-lt test (suc n) = grind (arith, set_of-lt test n, pow-suc 2 n)

-- to set bit k of a number below it adds to the number
pub or_above : (s k : ℕ) → s < 2 ^ k → k < 64 → bit_or s (1 * 2 ^ k % 2 ^ 64) ≡ s + 2 ^ k
or_above s k small within =
    ap (λ m. bit_or s m) (one_shl k 64 within ∙ (omega arith)) ∙ or_comm s (1 * 2 ^ k) ∙ or_shifted 1 k s small ∙ omega arith

pub set_of_more : (test : ℕ → Bool) (n : ℕ) → set_of test (n + 1) ≡ cond (test n) (set_of test n + 2 ^ n) (set_of test n)
unfolding set_of
set_of_more test n = rw add-one refl

pub set_of_none : (test : ℕ → Bool) → set_of test 0 ≡ 0
unfolding set_of
set_of_none test = refl

-- one more number below k
grown : (test : ℕ → Bool) (k n : ℕ) → ((i : ℕ) → k ≤ i → test i ≡ false) → test n ≡ true → set_of test n + 2 ^ n < 2 ^ k
grown test k n above passes =
    let within : suc n ≤ k = grind (arith, above n) in
    let top : 2 ^ suc n ≤ 2 ^ k = pow-le-pow_right (lit< tt) within in
    omega (arith, set_of-lt test n, pow-suc 2 n, top)

-- a set of numbers below k
pub set_of-below : (test : ℕ → Bool) (k n : ℕ) → ((i : ℕ) → k ≤ i → test i ≡ false) → set_of test n < 2 ^ k
unfolding set_of
set_of-below test k zero above = pow_pos k
set_of-below test k (suc n) above = step (set_of-below test k n above) (test n) refl
  where
    step : set_of test n < 2 ^ k → (b : Bool) → test n ≡ b → cond b (set_of test n + 2 ^ n) (set_of test n) < 2 ^ k
    step less true passes = grown test k n above passes
    step less false fails = less

pub ruleset set_steps = (set_of-lt, or_above, set_of_more, set_of_none)

pub has_value-above : (field : Field) (run : Run) (i : ℕ) → size field ≤ i → has_value field run i ≡ false
unfolding has_value
has_value-above field run i above = grind arith

pub word-small : (field : Field) (run : Run) (from word bit : ℕ) → from ≡ 0 → word ≡ set_of (λ i. has_value field run (from + i)) bit → word < 2 ^ size field
word-small field run from word bit none is =
    let small : set_of (λ i. has_value field run (from + i)) bit < 2 ^ size field =
    set_of-below (λ i. has_value field run (from + i)) (size field) bit (λ i above. has_value-above field run (from + i) (omega arith)) in
    omega (arith, small, is)
