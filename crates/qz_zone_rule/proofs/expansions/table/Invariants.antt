use Rattle.std.proofs.Common.{◌≡◌, ◌++◌, length}
use Rattle.jiff_tz.specs.declared.timezone.TimeZone.TheVariants.{Posix}
use Rattle.qz_zone_rule.specs.Tables as spec
use Rattle.qz_zone_rule.proofs.expansions.table.Given as goal

abbrev pub invariant-loop-stretch : goal.invariant-loop-stretch
invariant-loop-stretch l = l.stretches ++ l.changes ≡ spec.table (spec.offset (Posix l.rule))

abbrev pub decreases-loop-stretch : goal.decreases-loop-stretch
decreases-loop-stretch l = length l.changes
