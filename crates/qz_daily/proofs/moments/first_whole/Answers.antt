use Rattle.std.proofs.Common.{arith}
use Rattle.qz_civil.specs.declared.limits.TheConstants.{SECONDS}
use Rattle.qz_daily.proofs.Fires.{first-there, none-there}
use Rattle.qz_daily.proofs.moments.first_whole.Goals as goal

pub returns-in-Some : goal.returns-in-Some
returns-in-Some c =
    first-there c.args.pattern.now c.args.zone.now c.args.floor c.loop-start.start c.span_from-span.result.shift c.span_from-span.result.end SECONDS c.in-Some.second
    c.span_from-span.ensures.clock c.loop-start.invariant.1 c.span_from-span.ensures.ends c.loop-start.invariant.0 c.in-Some.ensures

pub loop-start-preserved : goal.loop-start-preserved
loop-start-preserved c = (
  none-there c.args.pattern.now c.args.zone.now c.args.floor c.loop-start.start c.span_from-span.result.shift c.span_from-span.result.end
      c.span_from-span.ensures.clock c.loop-start.invariant.0 c.in_default.ensures,
  omega (arith, c.loop-start.invariant.1, c.span_from-span.ensures.begins),
)
