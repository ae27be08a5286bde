-- What is true, part by part: a search that unfolds all of it is slow.
use Rattle.std.proofs.Common.{◌≡◌, ℕ, ◌≤◌, nat_le, Bool, true, false, ◌&&◌, refl, arith}
use Rattle.std.specs.Prelude.{IsTrue}
use Rattle.qz_values.proofs.Formats.{Both}

-- both of two
pub parts_true : (a b : Bool) → (a && b) ≡ true → Both (a ≡ true) (b ≡ true)
parts_true true true h = record { first = refl; others = refl }
parts_true true false h = absurd cc
parts_true false b h = absurd cc

pub first_true : (a b : Bool) → IsTrue (a && b) → IsTrue a
first_true true b h = refl
first_true false b h = h

pub last_true : (a b : Bool) → IsTrue (a && b) → IsTrue b
last_true true b h = h
last_true false b h = absurd (grind arith)

pub both_true : (a b : Bool) → IsTrue a → IsTrue b → IsTrue (a && b)
both_true true b h k = k
both_true false b h k = h

pub at_most : (n limit : ℕ) → n ≤ limit → IsTrue (nat_le n limit)
at_most n limit h = grind arith
