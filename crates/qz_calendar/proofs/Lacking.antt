-- What a set lacks is in its complement.
use Rattle.std.proofs.Common.{◌≡◌, ℕ, ◌-◌, ◌^◌, ◌<◌, arith, w64, not, ◌==◌}
use Rattle.std.specs.Int.{bit_at, bit_not}
use Rattle.std.proofs.lemmas.Nat.Bits.{bit_at_not, bit_at-lt}
use Rattle.qz_civil.specs.Fields.{has_bit}
use Rattle.qz_calendar.specs.Search.{lacks}

flipped : (b : ℕ) → b < 2 → not (b == 1) ≡ (1 - b == 1)
flipped b lt = grind arith

pub lacks-complement : (set i : ℕ) → set < 2 ^ 64 → i < 64 → lacks set i ≡ has_bit (bit_not w64 set) i
unfolding has_bit
lacks-complement set i fits lt = rw (bit_at_not w64 set i fits lt) (flipped (bit_at set i) (bit_at-lt set i))
