use Rattle.std.proofs.Common.{◌∙◌, rules}
use Rattle.qz_journal.proofs.SlotBytes.{slots_in_front}
use Rattle.qz_journal.proofs.reading.read_header.Goals as goal

pub returns-in-Some-clause-slots : goal.returns-in-Some-clause-slots
returns-in-Some-clause-slots g c h = c.slots_in.ensures ∙ slots_in_front _ _ (search rules)
