use Rattle.std.proofs.Common.{◌≡◌, w64, to_z, of_z, arith}
use Rattle.std.proofs.lemmas.Int.{ints, to_z-of_z}
use Rattle.qz_simple.proofs.RepeatLemmas.{span-bounds, interval-bounds, count-bounds}
use Rattle.qz_simple.proofs.times.SimpleTimesTimes.next.Goals as goal

pub returns : goal.returns
returns c =
    let x = c.args.self.now in
    let a = span-bounds x.start x.span in
    let b = interval-bounds x.interval x.count x.repeats in
    let d = count-bounds x.interval x.count x.repeats in
    let start : to_z w64 (of_z w64 x.start) ≡ x.start = omega (arith, ints, a.0, a.1) in
    let interval : to_z w64 (of_z w64 x.interval) ≡ x.interval = omega (arith, ints, b.0, b.1) in
    let count : to_z w64 (of_z w64 x.count) ≡ x.count = omega (arith, ints, d.0, d.1) in
    let after = to_z-of_z w64 c.args.after c.ranges.after in
    rw (start, interval, count, after) at c.next.ensures
