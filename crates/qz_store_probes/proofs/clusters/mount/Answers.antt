use Rattle.std.proofs.Common.{rules}
use Rattle.qz_store_probes.proofs.clusters.mount.Goals as goal

pub returns-clause-opened : goal.returns-clause-opened
returns-clause-opened g c = search rules

pub returns-clause-nothing_held : goal.returns-clause-nothing_held
returns-clause-nothing_held g c = search rules

pub returns-clause-nothing_added : goal.returns-clause-nothing_added
returns-clause-nothing_added g c = search rules

pub returns-clause-keeps : goal.returns-clause-keeps
returns-clause-keeps g c = search rules

pub returns-clause-behind : goal.returns-clause-behind
returns-clause-behind g c = search rules

pub returns-clause-found : goal.returns-clause-found
returns-clause-found g c = search rules

pub returns-clause-rows_told : goal.returns-clause-rows_told
returns-clause-rows_told g c = search rules

pub returns-clause-reads : goal.returns-clause-reads
returns-clause-reads g c = search rules

pub returns-clause-reads_err : goal.returns-clause-reads_err
returns-clause-reads_err g c = search rules

pub returns-clause-refused : goal.returns-clause-refused
returns-clause-refused g c = search rules

pub returns-clause-first : goal.returns-clause-first
returns-clause-first g c = search rules

pub returns-clause-whole : goal.returns-clause-whole
returns-clause-whole g c = search rules

pub returns-clause-later : goal.returns-clause-later
returns-clause-later g c = search rules

pub returns-clause-fault : goal.returns-clause-fault
returns-clause-fault g c = search rules
