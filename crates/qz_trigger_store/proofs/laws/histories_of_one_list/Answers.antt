use Rattle.qz_trigger_store.proofs.Ends.{same_tables, same_count}
use Rattle.qz_trigger_store.proofs.laws.histories_of_one_list.Goals as goal

pub returns-clause-tables : goal.returns-clause-tables
returns-clause-tables c = same_tables

pub returns-clause-count : goal.returns-clause-count
returns-clause-count c = same_count
