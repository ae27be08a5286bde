use Rattle.std.proofs.Common.{subst}
use Rattle.qz_types.specs.Rows.{TriggerData}
use Rattle.qz_types.specs.Sorted.{IsAscending}
use Rattle.qz_types.specs.Words.{key_cmp}
use Rattle.qz_tables.proofs.timed.Timed.get.Goals as goal

pub returns-clause-sorted : goal.returns-clause-sorted
returns-clause-sorted c = subst (λ v. IsAscending key_cmp (λ (r : TriggerData). r.spec.key) v.rows) c.self.view_is c.get.ensures.sorted
