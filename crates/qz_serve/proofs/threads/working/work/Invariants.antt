use Rattle.qz_serve.specs.Asking.{KeepsSeat, IsAtWork, IsReady, deeds}
use Rattle.qz_serve.specs.Finished.{Knows}
use Rattle.qz_serve.specs.Ran.{Ran}
use Rattle.qz_serve.proofs.threads.working.work.Given as goal

abbrev pub invariant-works : goal.invariant-works
invariant-works g l = record {
  work : IsAtWork (g.C.SharedClock.shows l.clock) l.until l.me l.row l.seat l.turn l.context;
  ready : IsReady l.turn l.context;
  knows : Knows (g.C.SharedClock.shows l.clock) l.until l.me l.row l.seat l.turn;
  same : KeepsSeat l.fn.seat l.seat;
  lawful : g.J.NodeJobs.lawful l.jobs;
  ran : Ran (deeds l.row l.seat) (g.J.NodeJobs.meanings l.fn.jobs) (g.J.NodeJobs.meanings l.jobs);
}
