use Rattle.std.proofs.Common.{◌≡◌, ◌-◌, false, length, take}
use Rattle.std.specs.List.{AllByRecursion}
use Rattle.std.specs.Ordering.{nat_cmp}
use Rattle.qz_types.specs.Sorted.{IsAscending}
use Rattle.qz_tables.specs.Contents.{KeepsSpare}
use Rattle.qz_model.specs.Tests.{is_of}
use Rattle.qz_recover.proofs.Walk.{all_ended}
use Rattle.qz_recover.proofs.ending.end_rows.Given as goal

abbrev pub invariant-loop-place : goal.invariant-loop-place
invariant-loop-place l = IsAscending nat_cmp (λ r. r.entry) l.tables.tables.fired
    × AllByRecursion (λ f. is_of l.member f ≡ false) (take l.place l.tables.tables.fired)
    × (all_ended l.member l.tables.tables ≡ all_ended l.member l.initial.tables.tables)
    × KeepsSpare l.initial.tables.spare l.tables.spare

abbrev pub decreases-loop-place : goal.decreases-loop-place
decreases-loop-place l = length l.tables.tables.fired - l.place
