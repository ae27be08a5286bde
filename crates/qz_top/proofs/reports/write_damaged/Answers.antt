use Rattle.std.proofs.Common.{◌++◌}
use Rattle.std.specs.Prelude.{codes}
use Rattle.std.specs.Fmt.{decimal}
use Rattle.qz_top.specs.Statuses.{store_text}
use Rattle.qz_top.proofs.Pieces.{wrote_both, wrote_as, two_by_two}
use Rattle.qz_top.proofs.reports.write_damaged.Goals as goal

pub returns-clause-ok : goal.returns-clause-ok
returns-clause-ok g c =
    wrote_as _ _ _ _ _ (two_by_two (codes "qz: ") (store_text c.args.store) (codes " damaged at ") (decimal c.args.at) (codes "\n"))
    (wrote_both _ _ _ _ (codes "qz: " ++ store_text c.args.store) _ c.in_ok-write_store.ensures.ok
    (wrote_both _ _ _ _ (codes " damaged at " ++ decimal c.args.at) (codes "\n") c.in_ok-write_number.ensures.ok c.write_all.ensures.ok))
