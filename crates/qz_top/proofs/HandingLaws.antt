-- What was handed on, over calls that follow one another.
use Rattle.std.proofs.Common.{inl, inr, ◌≤◌, ℕ, arith}
use Rattle.qz_civil.specs.Causes.{Rose}
use Rattle.qz_io.specs.declared.traits.Sink as sink
use Rattle.qz_top.specs.HandingOn.{HandsOnAll}

rose_later : (x y z : ℕ) → x ≤ y → Rose y z → Rose x z
rose_later x y z later rose = omega (arith, later, rose)

pub then_rose : (x y z : ℕ) → Rose x y → y ≤ z → Rose x z
then_rose x y z rose later = omega (arith, rose, later)

-- the last call hands on what those before it wrote
pub hands_later : {K : Type 0} (k : sink.Ghosts K) (a b c : K) → k.faults a ≤ k.faults b → HandsOnAll k b c → HandsOnAll k a c
hands_later k a b c later (inl handed) = inl handed
hands_later k a b c later (inr rose) = inr (rose_later _ _ _ later rose)
