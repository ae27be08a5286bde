use Rattle.std.proofs.Common.{◌≡◌, ap, subst}
use Rattle.std.specs.Prelude.{Some}
use Rattle.qz_types.specs.Words.{with_job, job_of, same_key}
use Rattle.qz_tables.proofs.tables.Tables.change_job.Goals as goal

pub returns-clause-tables : goal.returns-clause-tables
unfolding with_job same_key
returns-clause-tables c = rw c.change-old.ensures.rows (ap (λ v. record v.tables { jobs = with_job c.args.row.key (λ _. c.args.row) v.tables.jobs }) c.self.view_is)

pub returns-clause-row : goal.returns-clause-row
unfolding job_of same_key
returns-clause-row c = subst (λ v. Some c.change-old.result.1 ≡ job_of c.args.row.key v.tables.jobs) c.self.view_is c.change-old.ensures.row
