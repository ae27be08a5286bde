use Rattle.std.proofs.Common.{rules}
use Rattle.qz_store_probes.proofs.records.put_state.Goals as goal

pub returns-clause-bytes : goal.returns-clause-bytes
returns-clause-bytes c = search rules

pub returns-clause-size : goal.returns-clause-size
returns-clause-size c = search rules

pub returns-clause-valid : goal.returns-clause-valid
returns-clause-valid c = search rules

pub returns-clause-unique : goal.returns-clause-unique
returns-clause-unique c = search rules
