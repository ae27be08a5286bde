use Rattle.std.proofs.Common.{◌∙◌, sym, ap, arith, None, length}
use Rattle.jiff_tz.specs.declared.timezone.TimeZone.TheVariants.{Posix}
use Rattle.qz_zone_rule.specs.Tables.{later, stretch, offset}
use Rattle.qz_zone_rule.proofs.Faulty.{first_fault, later_bound, too_many, not_too_many, or_none}
use Rattle.qz_zone_rule.proofs.judging.fault_of.Goals as goal

pub loop-stretch-init : goal.loop-stretch-init
loop-stretch-init c =
    let z = offset (Posix c.args.rule.now) in
    let bound = later_bound z 0 in
    record {
      counted = rw c.of-changes.ensures (omega arith);
      bound = rw c.of-changes.ensures (omega arith);
      judged = rw (c.fault_at-fault.ensures, c.of-changes.ensures, c.stretch_at-before.ensures) (first_fault 0 None (stretch z 0) (later z 0));
    }

pub returns-then-count-gt-STRETCH_LIMIT : goal.returns-then-count-gt-STRETCH_LIMIT
returns-then-count-gt-STRETCH_LIMIT c =
    let z = offset (Posix c.args.rule.now) in
    let none = c.in_default.ensures in
    let counted = c.loop-stretch.invariant.counted in
    sym (too_many (stretch z 0) (later z 0) c.loop-stretch.count (omega (arith, ap length none, counted)) c.if-count-gt-STRETCH_LIMIT.true)

pub returns-else-count-gt-STRETCH_LIMIT : goal.returns-else-count-gt-STRETCH_LIMIT
returns-else-count-gt-STRETCH_LIMIT c =
    let z = offset (Posix c.args.rule.now) in
    let none = c.in_default.ensures in
    let counted = c.loop-stretch.invariant.counted in
    let judged = rw none at c.loop-stretch.invariant.judged in
    sym (or_none c.loop-stretch.fault) ∙ judged ∙ sym (not_too_many (stretch z 0) (later z 0) c.loop-stretch.count (omega (arith, ap length none, counted)) c.if-count-gt-STRETCH_LIMIT.false)
