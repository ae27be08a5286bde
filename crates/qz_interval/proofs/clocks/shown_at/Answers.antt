use Rattle.std.proofs.Common.{rules, arith, w32, w64, FitsSigned}
use Rattle.std.proofs.lemmas.Int.{ints, to_z-of_z}
use Rattle.qz_civil.proofs.InstantLemmas.{timestamp_high, timestamp_low}
use Rattle.qz_interval.proofs.ClockLemmas.{fixed-only, fixed-shown, fixed-valid}
use Rattle.qz_interval.proofs.clocks.shown_at.Goals as goal
use Rattle.qz_interval.proofs.clocks.shown_at.Goals.{else-ms-ge0-via-then-ms-ge0+else-ms-le-LAST, else-ms-ge0-via-else-ms-ge0}

pub returns-then-ms-le-LAST-clause-some : goal.returns-then-ms-le-LAST-clause-some
returns-then-ms-le-LAST-clause-some c =
    let f : FitsSigned w64 c.unshifted-ms.result = search rules in
    let valid = fixed-valid c.args.offset c.requires.offset_low c.requires.offset_high in
    let is = rw (to_z-of_z w32 c.args.offset c.ranges.offset) at c.unshifted-ms.ensures in
    rw (to_z-of_z w64 c.unshifted-ms.result f) (fixed-shown c.args.offset c.args.clock c.unshifted-ms.result valid (omega (arith, ints)) (omega (arith, ints)) is)

pub returns-else-ms-ge0-clause-none : goal.returns-else-ms-ge0-clause-none
returns-else-ms-ge0-clause-none c = λ none t shown.
    let valid = fixed-valid c.args.offset c.requires.offset_low c.requires.offset_high in
    let is = fixed-only c.args.offset c.args.clock t valid shown in
    let ms = rw (to_z-of_z w32 c.args.offset c.ranges.offset) at c.unshifted-ms.ensures in
    let low = timestamp_low t shown.0 in
    let high = timestamp_high t shown.0 in
    elim c.else-ms-ge0.branch [
      | else-ms-ge0-via-then-ms-ge0+else-ms-le-LAST w ↦ omega (arith, ints, ms, is, w.if-ms-le-LAST.false)
      | else-ms-ge0-via-else-ms-ge0 w ↦ omega (arith, ints, ms, is, w.if-ms-ge0.false)
    ]
