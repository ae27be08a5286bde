use Rattle.std.proofs.Common.{◌++◌, append_assoc}
use Rattle.std.specs.Prelude.{codes}
use Rattle.std.specs.Fmt.{decimal}
use Rattle.qz_top.proofs.Pieces.{wrote_as, wrote_both}
use Rattle.qz_tell.proofs.reports.write_beginning.Goals as goal

pub returns-clause-ok : goal.returns-clause-ok
returns-clause-ok g c =
    wrote_as _ _ _ _ _ (append_assoc (codes "qz: begins at ") (decimal c.args.number) (codes "\n"))
    (wrote_both _ _ _ _ (codes "qz: begins at " ++ decimal c.args.number) (codes "\n") c.in_ok-write_start.ensures.ok c.write_all.ensures.ok)
