use Rattle.std.proofs.Common.{rules, ◌<◌, ◌≤◌, ◌^◌, ℕ, arith}
use Rattle.std.proofs.Math.Nat.{pow-le-pow_right}
use Rattle.std.proofs.lemmas.Bool.Decides.{nat_tests}
use Rattle.qz_words.proofs.numbers.number_of.Goals as goal

-- eighteen digits and another fit 64 bits
eighteen : (i n : ℕ) → i ≤ 18 → n < 10 ^ i → n < 1000000000000000000
eighteen i n low small =
    let most : 10 ^ i ≤ 1000000000000000000 = pow-le-pow_right {n = 10} (omega arith) low in
    omega (arith, most, small)

pub overflow_mul-number : goal.overflow_mul-number
overflow_mul-number c =
    let low : c.loop-b.b-index ≤ 18 = grind (arith, nat_tests) in
    let small = eighteen c.loop-b.b-index c.loop-b.number low c.loop-b.invariant.small in
    search rules

pub overflow_add-number : goal.overflow_add-number
overflow_add-number c =
    let low : c.loop-b.b-index ≤ 18 = grind (arith, nat_tests) in
    let small = eighteen c.loop-b.b-index c.loop-b.number low c.loop-b.invariant.small in
    search rules
