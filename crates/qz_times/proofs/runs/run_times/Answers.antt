use Rattle.qz_times.proofs.RunLaws.{IsRun-whole, IsRun-stopped, IsRun-kept, stopped_rose, stopped_handed, then_rose, finish_rose, finish_handed}
use Rattle.qz_times.proofs.runs.run_times.Goals as goal

pub returns-in-Ok-clause-run : goal.returns-in-Ok-clause-run
returns-in-Ok-clause-run g c = IsRun-whole g.K.Sink _ _ _ _ _ _ _ _ c.nothing.ensures c.in-Ok.ensures.lines c.finish.ensures

pub returns-in-Ok-clause-write : goal.returns-in-Ok-clause-write
returns-in-Ok-clause-write g c = finish_rose g.K.Sink _ _ _ _ _ _ _ _ c.in-Ok.ensures.lines c.finish.ensures

pub returns-in-Ok-clause-handed : goal.returns-in-Ok-clause-handed
returns-in-Ok-clause-handed g c = finish_handed g.K.Sink _ _ _ _ _ _ c.in-Ok.ensures.lines c.finish.ensures

pub returns-in-Err-clause-run : goal.returns-in-Err-clause-run
returns-in-Err-clause-run g c =
    rw c.end_of.ensures (IsRun-kept g.K.Sink c.in-Err.end _ _ _ _ _ _ (IsRun-stopped g.K.Sink c.in-Err.end _ _ _ _ c.nothing.ensures c.in-Err.ensures.lines) c.hand_on.ensures.kept)

pub returns-in-Err-clause-write : goal.returns-in-Err-clause-write
returns-in-Err-clause-write g c =
    rw c.end_of.ensures (λ is. then_rose g.K.Sink _ _ _ (stopped_rose g.K.Sink c.in-Err.end _ _ _ _ c.in-Err.ensures.lines is) c.hand_on.ensures.later)

pub returns-in-Err-clause-handed : goal.returns-in-Err-clause-handed
returns-in-Err-clause-handed g c = stopped_handed g.K.Sink c.in-Err.end _ _ _ _ _ c.in-Err.ensures.lines c.hand_on.ensures.handed
