use Rattle.std.proofs.Common.{rules, ◌∙◌, sym, w32, w64, FitsSigned}
use Rattle.std.proofs.lemmas.Int.{to_z-of_z}
use Rattle.qz_interval.proofs.ClockLemmas.{fixed-range, fixed-shows}
use Rattle.qz_interval.proofs.clocks.Clock.at.Goals as goal

pub shifted-requires-clause-offset_low : goal.shifted-requires-clause-offset_low
shifted-requires-clause-offset_low c =
    let range = fixed-range c.in-Fixed.offset (rw c.in-Fixed.is at c.requires.valid) in
    let f : FitsSigned w32 c.in-Fixed.offset = search rules in
    rw (to_z-of_z w32 c.in-Fixed.offset f) range.0

pub shifted-requires-clause-offset_high : goal.shifted-requires-clause-offset_high
shifted-requires-clause-offset_high c =
    let range = fixed-range c.in-Fixed.offset (rw c.in-Fixed.is at c.requires.valid) in
    let f : FitsSigned w32 c.in-Fixed.offset = search rules in
    rw (to_z-of_z w32 c.in-Fixed.offset f) range.1

pub returns-in-Fixed-clause-value : goal.returns-in-Fixed-clause-value
returns-in-Fixed-clause-value c =
    let range = fixed-range c.in-Fixed.offset (rw c.in-Fixed.is at c.requires.valid) in
    let f : FitsSigned w32 c.in-Fixed.offset = search rules in
    let ms = to_z-of_z w64 c.args.ms c.ranges.ms in
    let value = rw (ms, to_z-of_z w32 c.in-Fixed.offset f) at c.shifted.ensures.value in
    rw c.in-Fixed.is (value ∙ sym (fixed-shows c.in-Fixed.offset c.args.ms))
