use Rattle.std.proofs.Common.{None, ◌≡◌, ◌-◌, ◌<◌, ◌^◌, pos}
use Rattle.qz_civil.specs.Zones.{bad_zone}
use Rattle.qz_civil.proofs.EarliestLemmas.{NoneBefore}
use Rattle.qz_civil.proofs.zones.Zone.earliest_at.Given as goal

abbrev pub invariant-loop-next_start : goal.invariant-loop-next_start
invariant-loop-next_start l = (bad_zone l.self ≡ None → NoneBefore l.self l.local (pos l.from)) × (l.from < 2 ^ 62)

abbrev pub decreases-loop-next_start : goal.decreases-loop-next_start
decreases-loop-next_start l = 2 ^ 62 - l.from
