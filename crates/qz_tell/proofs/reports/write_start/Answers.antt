use Rattle.std.specs.Prelude.{codes}
use Rattle.qz_top.proofs.Pieces.{wrote_both}
use Rattle.qz_tell.proofs.reports.write_start.Goals as goal

pub returns-clause-ok : goal.returns-clause-ok
returns-clause-ok g c = wrote_both _ _ _ _ (codes "qz: begins at ") _ c.in_ok-write_all.ensures.ok (rw (c.as_bytes.ensures.value, c.format.ensures.text) at c.write_all-2.ensures.ok)
