-- The numbers that a seed gives, one draw after the other.
use Rattle.std.specs.Prelude.{ℕ, zero, suc, ◌+◌, ◌*◌, ◌/◌, ◌%◌, ◌^◌}

-- the state after a draw
unfoldable pub next_state : ℕ → ℕ
next_state x = (x * 6364136223846793005 + 1442695040888963407) % 2 ^ 64

-- the state after so many draws
abbrev pub after : ℕ → ℕ → ℕ
after zero x = x
after (suc k) x = next_state (after k x)

-- the number below n that the next draw gives: the high bits of the state after it
unfoldable pub drawn : ℕ → ℕ → ℕ
drawn n x = next_state x / 2 ^ 33 % n
