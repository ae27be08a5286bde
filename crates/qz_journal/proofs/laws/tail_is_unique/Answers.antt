use Rattle.qz_journal.proofs.TrueTails.{tail_once, tail_not_refused}
use Rattle.qz_journal.proofs.laws.tail_is_unique.Goals as goal

pub returns-clause-one_list : goal.returns-clause-one_list
returns-clause-one_list c = tail_once

pub returns-clause-not_both : goal.returns-clause-not_both
returns-clause-not_both c = tail_not_refused
