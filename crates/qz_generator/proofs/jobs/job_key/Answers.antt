use Rattle.std.proofs.Common.{rules, arith}
use Rattle.qz_generator.proofs.Valid.{key_of}
use Rattle.qz_generator.proofs.jobs.job_key.Goals as goal

pub returns-clause-valid : goal.returns-clause-valid
returns-clause-valid c = key_of 106 c.args.number c.new.result (omega arith) (search rules)
