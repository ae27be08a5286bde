use Rattle.std.proofs.Common.{◌≡◌, ◌+◌, ◌≤◌, length, None, Some}
use Rattle.std.specs.Option.{option_or}
use Rattle.jiff_tz.specs.declared.timezone.TimeZone.TheVariants.{Posix}
use Rattle.qz_civil.specs.Zones.{bad_place}
use Rattle.qz_zone_rule.specs.Tables.{table, offset}
use Rattle.qz_zone_rule.specs.declared.quarters.TheConstants.{QUARTERS}
use Rattle.qz_zone_rule.proofs.judging.fault_of.Given as goal

abbrev pub invariant-loop-stretch : goal.invariant-loop-stretch
invariant-loop-stretch l = record {
  counted : l.count + length l.changes ≡ length (table (offset (Posix l.rule)));
  bound : l.count + length l.changes ≤ QUARTERS;
  judged : option_or l.fault (bad_place l.count (Some l.before.from) l.changes) ≡ bad_place 0 None (table (offset (Posix l.rule)));
}

abbrev pub decreases-loop-stretch : goal.decreases-loop-stretch
decreases-loop-stretch l = length l.changes
