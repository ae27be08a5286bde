use Rattle.qz_laws.proofs.Before.{stays_legal}
use Rattle.qz_laws.proofs.laws.old_histories_stay_legal.Goals as goal

pub returns-clause-legal : goal.returns-clause-legal
returns-clause-legal c T es none legal = (stays_legal T es none legal).legal

pub returns-clause-replies : goal.returns-clause-replies
returns-clause-replies c T es none legal = (stays_legal T es none legal).replies

pub returns-clause-tables : goal.returns-clause-tables
returns-clause-tables c T es none legal = (stays_legal T es none legal).tables

pub returns-clause-no_job_groups : goal.returns-clause-no_job_groups
returns-clause-no_job_groups c T es none legal = (stays_legal T es none legal).none
