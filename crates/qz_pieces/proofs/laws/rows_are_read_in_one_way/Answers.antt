use Rattle.qz_pieces.proofs.Rows.{flat_one, flat-append}
use Rattle.qz_pieces.proofs.Cuts.{cut_is, greedy_is}
use Rattle.qz_pieces.proofs.laws.rows_are_read_in_one_way.Goals as goal

pub returns-clause-one : goal.returns-clause-one
returns-clause-one c rs ss e = flat_one rs ss e

pub returns-clause-appended : goal.returns-clause-appended
returns-clause-appended c rs ss = flat-append rs ss

pub returns-clause-cut : goal.returns-clause-cut
returns-clause-cut c rs short = cut_is rs short

pub returns-clause-greedy : goal.returns-clause-greedy
returns-clause-greedy c groups within greedy = greedy_is groups within greedy
