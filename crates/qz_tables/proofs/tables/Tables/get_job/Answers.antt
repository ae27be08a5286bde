use Rattle.std.proofs.Common.{subst}
use Rattle.qz_types.specs.Rows.{JobData}
use Rattle.qz_types.specs.Sorted.{IsAscending}
use Rattle.qz_types.specs.Words.{key_cmp}
use Rattle.qz_tables.proofs.tables.Tables.get_job.Goals as goal

pub returns-clause-sorted : goal.returns-clause-sorted
returns-clause-sorted c = subst (λ v. IsAscending key_cmp (λ (r : JobData). r.key) v.tables.jobs) c.self.view_is c.get.ensures.sorted
