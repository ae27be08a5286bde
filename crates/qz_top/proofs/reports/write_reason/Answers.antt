use Rattle.std.specs.Prelude.{codes}
use Rattle.qz_top.proofs.Pieces.{wrote_both}
use Rattle.qz_top.proofs.reports.write_reason.Goals as goal

pub returns-clause-ok : goal.returns-clause-ok
returns-clause-ok g c =
    wrote_both _ _ _ _ (codes ": ") _ c.in_ok-write_all.ensures.ok (wrote_both _ _ _ _ _ (codes "\n") c.in_ok-write_kind.ensures.ok c.write_all-2.ensures.ok)
