use Rattle.std.proofs.Common.{◌≡◌}
use Rattle.qz_run.specs.Working.{CallsNone}
use Rattle.qz_run.specs.RunRules.{Joining}
use Rattle.qz_run.proofs.joining.join_all.Given as goal

abbrev pub invariant-loop-node : goal.invariant-loop-node
invariant-loop-node g l = record {
  joining : Joining l.plan l.clock.at l.node l.node (g.S.Stores.state l.stores);
  calls : CallsNone (g.S.Stores.state l.fn.stores) (g.S.Stores.state l.stores);
  origin : g.S.Stores.origin l.stores ≡ g.S.Stores.origin l.fn.stores;
}
