use Rattle.std.proofs.Common.{rules, w32, FitsSigned}
use Rattle.std.proofs.lemmas.Int.{to_z-of_z}
use Rattle.qz_interval.proofs.ClockLemmas.{fixed-range}
use Rattle.qz_interval.proofs.clocks.Clock.moment.Goals as goal

pub shown_at-requires-clause-offset_low : goal.shown_at-requires-clause-offset_low
shown_at-requires-clause-offset_low c =
    let range = fixed-range c.in-Fixed.offset (rw c.in-Fixed.is at c.requires.valid) in
    let f : FitsSigned w32 c.in-Fixed.offset = search rules in
    rw (to_z-of_z w32 c.in-Fixed.offset f) range.0

pub shown_at-requires-clause-offset_high : goal.shown_at-requires-clause-offset_high
shown_at-requires-clause-offset_high c =
    let range = fixed-range c.in-Fixed.offset (rw c.in-Fixed.is at c.requires.valid) in
    let f : FitsSigned w32 c.in-Fixed.offset = search rules in
    rw (to_z-of_z w32 c.in-Fixed.offset f) range.1
