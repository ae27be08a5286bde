use Rattle.std.proofs.Common.{◌++◌}
use Rattle.std.specs.Prelude.{codes}
use Rattle.std.specs.Fmt.{decimal}
use Rattle.qz_top.specs.Statuses.{need_text, room_text}
use Rattle.qz_top.proofs.Pieces.{wrote_both}
use Rattle.qz_top.proofs.reports.write_full.Goals as goal

pub returns-clause-ok : goal.returns-clause-ok
returns-clause-ok g c =
    wrote_both _ _ _ _ (need_text c.args.need) (room_text c.args.room) c.in_ok-write_number.ensures.ok
    (wrote_both _ _ _ _ (codes " room " ++ decimal c.args.room) (codes "\n") c.in_ok-write_number-2.ensures.ok c.write_all.ensures.ok)
