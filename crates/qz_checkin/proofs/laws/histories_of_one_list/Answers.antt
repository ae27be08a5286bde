use Rattle.qz_checkin.proofs.Histories.{same_rows}
use Rattle.qz_checkin.proofs.laws.histories_of_one_list.Goals as goal

pub returns-clause-rows : goal.returns-clause-rows
returns-clause-rows c = same_rows
