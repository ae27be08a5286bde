use Rattle.qz_journal.proofs.Marks.{free_is}
use Rattle.qz_journal.proofs.SlotBytes.{keeps_payloads, keeps_true_slots, appended_slots}
use Rattle.qz_journal.proofs.laws.slots_keep_payloads.Goals as goal

pub returns-clause-payloads : goal.returns-clause-payloads
returns-clause-payloads c = keeps_payloads

pub returns-clause-stay_true : goal.returns-clause-stay_true
returns-clause-stay_true c = keeps_true_slots

pub returns-clause-appended : goal.returns-clause-appended
returns-clause-appended c = appended_slots

pub returns-clause-free : goal.returns-clause-free
returns-clause-free c = free_is
