use Rattle.qz_cluster.proofs.Scripts.{IsLegal-state_after, AreLegal-state_after}
use Rattle.qz_cluster.proofs.ValidScripts.{valid-state_after, entries-state_after, state_entries-state_after}
use Rattle.qz_cluster.proofs.laws.scripts_keep_legal_histories.Goals as goal

pub returns-clause-legal : goal.returns-clause-legal
returns-clause-legal c s ts legal = IsLegal-state_after s ts legal

pub returns-clause-legal_states : goal.returns-clause-legal_states
returns-clause-legal_states c s ts legal = AreLegal-state_after s ts legal

pub returns-clause-entries : goal.returns-clause-entries
returns-clause-entries c s ts good entries = entries-state_after s ts good entries

pub returns-clause-state_entries : goal.returns-clause-state_entries
returns-clause-state_entries c s ts good entries = state_entries-state_after s ts good entries

pub returns-clause-tables : goal.returns-clause-tables
returns-clause-tables c s ts good valid = valid-state_after s ts good valid
