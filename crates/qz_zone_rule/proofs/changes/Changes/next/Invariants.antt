use Rattle.std.proofs.Common.{◌≡◌, ◌<◌, ◌≤◌, ◌-◌, ℕ}
use Rattle.jiff_tz.specs.declared.timezone.TimeZone.TheVariants.{Posix}
use Rattle.qz_zone_rule.specs.declared.quarters.TheConstants.{QUARTERS}
use Rattle.qz_zone_rule.specs.Tables.{later, offset}
use Rattle.qz_zone_rule.proofs.changes.Changes.next.Given as goal

abbrev pub invariant-loop-place : goal.invariant-loop-place
invariant-loop-place l = record {
  rule : l.self-inside.rule ≡ l.initial.self-inside.rule;
  to_come : later (offset (Posix l.initial.self-inside.rule)) l.initial.self-inside.place ≡ later (offset (Posix l.self-inside.rule)) l.self-inside.place;
  known : l.before.offset ≡ offset (Posix l.self-inside.rule) l.self-inside.place;
  ahead : l.self-inside.place < l.place;
  bound : l.place ≤ QUARTERS;
  same : (i : ℕ) → l.self-inside.place ≤ i → i < l.place → offset (Posix l.self-inside.rule) i ≡ offset (Posix l.self-inside.rule) l.self-inside.place;
}

abbrev pub decreases-loop-place : goal.decreases-loop-place
decreases-loop-place l = QUARTERS - l.place
