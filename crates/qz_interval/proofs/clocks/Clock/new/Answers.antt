use Rattle.std.proofs.Common.{rules, ◌∙◌, ap, w32, w64, FitsSigned}
use Rattle.std.proofs.lemmas.Int.{to_z-of_z}
use Rattle.qz_civil.specs.Zones.{fixed_offset, local}
use Rattle.qz_interval.proofs.ClockLemmas.{fixed-local, fixed-valid}
use Rattle.qz_interval.proofs.clocks.Clock.new.Goals as goal

pub returns-then-not-preserve-clause-start : goal.returns-then-not-preserve-clause-start
returns-then-not-preserve-clause-start c =
    let f : FitsSigned w32 c.offset_until.result.0 = search rules in
    let start = to_z-of_z w64 c.args.start c.ranges.start in
    let offset = to_z-of_z w32 c.offset_until.result.0 f ∙ rw start at c.offset_until.ensures.offset in
    ap (λ z. local (fixed_offset z) c.args.start) offset ∙ fixed-local c.args.zone.now c.args.start

pub returns-then-not-preserve-clause-valid : goal.returns-then-not-preserve-clause-valid
returns-then-not-preserve-clause-valid c =
    let f : FitsSigned w32 c.offset_until.result.0 = search rules in
    rw (to_z-of_z w32 c.offset_until.result.0 f) (fixed-valid c.offset_until.result.0 c.offset_until.ensures.offset_low c.offset_until.ensures.offset_high)
