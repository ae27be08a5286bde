use Rattle.qz_cron_text.proofs.TextFaults.{texts_have_faults, one_fault}
use Rattle.qz_cron_text.proofs.laws.texts_have_one_first_fault.Goals as goal

pub returns-clause-both_ways : goal.returns-clause-both_ways
returns-clause-both_ways c = texts_have_faults

pub returns-clause-one : goal.returns-clause-one
returns-clause-one c = one_fault
