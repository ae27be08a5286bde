use Rattle.std.proofs.Common.{◌∙◌}
use Rattle.qz_top.proofs.EndLaws.{IsRun-whole, faults_later, finish_rose, finish_called, whole_shown}
use Rattle.qz_top.proofs.HandingLaws.{hands_later, then_rose}
use Rattle.qz_top.proofs.MomentLaws.{Shows-more}
use Rattle.qz_top.proofs.StopLaws.{IsRun-cut, stopped_later, stopped_not_ok, stopped_rose, stopped_shown}
use Rattle.qz_top.proofs.scripts.run_lines.Goals as goal

pub returns-in-Ok-clause-run : goal.returns-in-Ok-clause-run
returns-in-Ok-clause-run g c = IsRun-whole g.D.Disk g.K.Sink g.C.Clock _ _ _ _ _ _ _ _ _ c.in-Ok.ensures.lines c.end_lines.ensures.rests c.end_lines.ensures.finishes

pub returns-in-Ok-clause-few : goal.returns-in-Ok-clause-few
returns-in-Ok-clause-few g c is not_own =
    c.end_lines.ensures.few is ((whole_shown g.D.Disk g.K.Sink g.C.Clock _ _ _ _ c.in-Ok.ensures.lines).own ∙ not_own)

pub returns-in-Ok-clause-called : goal.returns-in-Ok-clause-called
returns-in-Ok-clause-called g c = finish_called _ _ _ _ _ _ c.end_lines.ensures.finishes

pub returns-in-Ok-clause-write : goal.returns-in-Ok-clause-write
returns-in-Ok-clause-write g c = finish_rose g.D.Disk g.K.Sink g.C.Clock _ _ _ _ _ _ _ _ _ c.in-Ok.ensures.lines c.end_lines.ensures.finishes

pub returns-in-Ok-clause-handed : goal.returns-in-Ok-clause-handed
returns-in-Ok-clause-handed g c = hands_later g.K.Sink _ _ _ (faults_later g.D.Disk g.K.Sink g.C.Clock _ _ _ _ c.in-Ok.ensures.lines) c.end_lines.ensures.handed

pub returns-in-Err-clause-run : goal.returns-in-Err-clause-run
returns-in-Err-clause-run g c =
    rw c.status_of.ensures.value (IsRun-cut g.D.Disk g.K.Sink g.C.Clock c.in-Err.end _ _ _ _ _ c.in-Err.ensures.lines c.hand_on.ensures.kept)

pub returns-in-Err-clause-few : goal.returns-in-Err-clause-few
returns-in-Err-clause-few g c = rw c.status_of.ensures.value (λ is. absurd (stopped_not_ok c.in-Err.end is))

pub returns-in-Err-clause-write : goal.returns-in-Err-clause-write
returns-in-Err-clause-write g c =
    rw c.status_of.ensures.value (λ is. then_rose _ _ _ (stopped_rose g.D.Disk g.K.Sink g.C.Clock c.in-Err.end _ _ _ _ c.in-Err.ensures.lines is) c.hand_on.ensures.later)

pub returns-in-Err-clause-handed : goal.returns-in-Err-clause-handed
returns-in-Err-clause-handed g c =
    hands_later g.K.Sink _ _ _ (stopped_later g.D.Disk g.K.Sink g.C.Clock c.in-Err.end _ _ _ _ c.in-Err.ensures.lines) c.hand_on.ensures.handed

pub returns-in-Ok-clause-shows : goal.returns-in-Ok-clause-shows
returns-in-Ok-clause-shows g c = Shows-more _ _ _ _ (whole_shown g.D.Disk g.K.Sink g.C.Clock _ _ _ _ c.in-Ok.ensures.lines) c.end_lines.ensures.shows

pub returns-in-Err-clause-shows : goal.returns-in-Err-clause-shows
returns-in-Err-clause-shows g c = stopped_shown g.D.Disk g.K.Sink g.C.Clock c.in-Err.end _ _ _ _ c.in-Err.ensures.lines
