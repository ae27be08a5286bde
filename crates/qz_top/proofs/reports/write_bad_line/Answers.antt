use Rattle.std.proofs.Common.{◌++◌}
use Rattle.std.specs.Prelude.{codes}
use Rattle.std.specs.Fmt.{decimal}
use Rattle.qz_top.specs.Statuses.{kind_text}
use Rattle.qz_top.proofs.Pieces.{wrote_both, wrote_as, two_and_three}
use Rattle.qz_top.proofs.reports.write_bad_line.Goals as goal

pub returns-clause-ok : goal.returns-clause-ok
returns-clause-ok g c =
    wrote_as _ _ _ _ _ (two_and_three (codes "qz: line ") (decimal c.args.line) (codes ": ") (kind_text c.args.kind) (codes "\n"))
    (wrote_both _ _ _ _ (codes "qz: line " ++ decimal c.args.line) _ c.in_ok-write_number.ensures.ok c.write_reason.ensures.ok)
