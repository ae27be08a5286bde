use Rattle.qz_trigger_store.specs.Kinds.{trigger_kind}
use Rattle.qz_trigger_store.specs.Laws.{trigger_lawful}
use Rattle.qz_follow.proofs.Gathering.{trigger_gathered}
use Rattle.qz_follow.proofs.Told.{first_fault, fault_told}
use Rattle.qz_follow.proofs.laws.faults_are_told.Goals as goal

pub returns-clause-first : goal.returns-clause-first
returns-clause-first c = first_fault trigger_kind trigger_lawful trigger_gathered

pub returns-clause-told : goal.returns-clause-told
returns-clause-told c = fault_told trigger_kind trigger_lawful trigger_gathered
