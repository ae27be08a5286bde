use Rattle.std.proofs.Common.{◌++◌, append_assoc}
use Rattle.std.specs.Prelude.{codes}
use Rattle.std.specs.Fmt.{decimal}
use Rattle.qz_top.proofs.Pieces.{wrote_both, wrote_as}
use Rattle.qz_top.proofs.reports.write_bad_stream.Goals as goal

pub returns-clause-ok : goal.returns-clause-ok
returns-clause-ok g c =
    wrote_as _ _ _ _ _ (append_assoc (codes "qz: bad stream at ") (decimal c.args.at) (codes "\n"))
    (wrote_both _ _ _ _ (codes "qz: bad stream at " ++ decimal c.args.at) (codes "\n") c.in_ok-write_number.ensures.ok c.write_all.ensures.ok)
