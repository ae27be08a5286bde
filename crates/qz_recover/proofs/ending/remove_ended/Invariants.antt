use Rattle.std.proofs.Common.{◌≡◌, drop}
use Rattle.qz_types.specs.Sorted.{IsAscending}
use Rattle.qz_types.specs.Words.{key_cmp}
use Rattle.qz_tables.specs.Contents.{KeepsSpare}
use Rattle.qz_recover.specs.Rows.{has_ended, without_triggers}
use Rattle.qz_recover.proofs.ending.remove_ended.Given as goal

abbrev pub invariant-loop-key : goal.invariant-loop-key
invariant-loop-key l = IsAscending key_cmp (λ r. r.spec.key) l.tables.tables.triggers
    × IsAscending key_cmp (λ r. r.key) l.tables.tables.jobs
    × (without_triggers (has_ended (drop l.key-index l.keys) l.tables.tables.fired) l.tables.tables ≡ without_triggers (has_ended l.keys l.initial.tables.tables.fired) l.initial.tables.tables)
    × KeepsSpare l.initial.tables.spare l.tables.spare
