use Rattle.qz_zone_rule.proofs.Views.{zone_table, table_is, no_table}
use Rattle.qz_zone_rule.proofs.laws.rules_are_jiffs.Goals as goal

pub returns-clause-table : goal.returns-clause-table
returns-clause-table c = zone_table

pub returns-clause-one : goal.returns-clause-one
returns-clause-one c = table_is

pub returns-clause-none : goal.returns-clause-none
returns-clause-none c = no_table
