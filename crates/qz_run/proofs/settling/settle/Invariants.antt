use Rattle.std.proofs.Common.{◌≡◌, ◌⊎◌, ◌-◌, length}
use Rattle.qz_run.specs.declared.stores.TheConstants.{ROOM}
use Rattle.qz_run.specs.Working.{Ready}
use Rattle.qz_run.specs.Steps.{AtWork, HasMoved}
use Rattle.qz_run.proofs.settling.settle.Given as goal

abbrev pub invariant-loop-none : goal.invariant-loop-none
invariant-loop-none g l = record {
  ready : Ready l.plan l.worker.at (g.S.Stores.state l.stores);
  work : AtWork l.worker.node l.worker.at (g.S.Stores.state l.stores);
  went : (g.S.Stores.state l.stores ≡ g.S.Stores.state l.fn.stores) ⊎ HasMoved l.plan l.worker.node l.worker.at (g.S.Stores.state l.fn.stores) (g.S.Stores.state l.stores);
  origin : g.S.Stores.origin l.stores ≡ g.S.Stores.origin l.fn.stores;
}

abbrev pub decreases-loop-none : goal.decreases-loop-none
decreases-loop-none g l = ROOM - length (g.S.Stores.state l.stores).log
