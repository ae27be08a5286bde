use Rattle.std.proofs.Common.{rules}
use Rattle.qz_store_probes.proofs.records.put_row.Goals as goal

pub returns-clause-bytes : goal.returns-clause-bytes
returns-clause-bytes g c = search rules

pub returns-clause-size : goal.returns-clause-size
returns-clause-size g c = search rules

pub returns-clause-valid : goal.returns-clause-valid
returns-clause-valid g c = search rules

pub returns-clause-unique : goal.returns-clause-unique
returns-clause-unique g c = search rules
