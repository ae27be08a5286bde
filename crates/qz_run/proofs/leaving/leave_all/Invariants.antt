use Rattle.std.proofs.Common.{◌≡◌, Bool}
use Rattle.qz_run.specs.Working.{CallsNone}
use Rattle.qz_run.specs.RunRules.{Leaving, IsDone}
use Rattle.qz_run.proofs.leaving.leave_all.Given as goal

abbrev pub invariant-loop-node : goal.invariant-loop-node
invariant-loop-node g l = record {
  leaving : Leaving l.plan l.clock.at l.node l.node (g.S.Stores.state l.stores);
  done : (spent : Bool) → IsDone l.plan spent (g.S.Stores.state l.fn.stores) → IsDone l.plan spent (g.S.Stores.state l.stores);
  calls : CallsNone (g.S.Stores.state l.fn.stores) (g.S.Stores.state l.stores);
  origin : g.S.Stores.origin l.stores ≡ g.S.Stores.origin l.fn.stores;
}
