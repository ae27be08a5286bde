use Rattle.qz_checkin.proofs.Looking.{moment_of_row}
use Rattle.qz_checkin.proofs.lateness.place_of_late.Goals as goal

pub is_late-requires-clause-row : goal.is_late-requires-clause-row
is_late-requires-clause-row c = moment_of_row c.args.rows.now c.loop-row.row-index c.row-item.result c.requires.rows c.loop-row-test.true c.row-item.is
