use Rattle.std.proofs.Common.{◌≡◌, ◌<◌, map}
use Rattle.qz_run.specs.Laws.{fires}
use Rattle.qz_run.specs.RoundRules.{GoesOn}
use Rattle.qz_run.specs.Moments.{Passes, PassSoFar}
use Rattle.qz_top.proofs.nodes.moments.pass.Given as goal

abbrev pub invariant-loop-node : goal.invariant-loop-node
invariant-loop-node g l = record {
  passes : Passes l.plan l.clock.at l.resting (g.S.Stores.state l.stores);
  fired_is : l.fired ≡ fires (g.S.Stores.state l.stores).log;
  within : l.fired < l.plan.budget;
  so_far : PassSoFar l.active l.node l.fn.fired l.fired l.fn.resting l.resting (g.S.Stores.state l.fn.stores) (g.S.Stores.state l.stores);
  calls : GoesOn (g.S.Stores.state l.fn.stores) (g.S.Stores.state l.stores)
      (map (λ b. (goal.Job-dyn g (b.vtable, b.value)).means b.value) l.fn.jobs.items)
      (map (λ b. (goal.Job-dyn g (b.vtable, b.value)).means b.value) l.jobs.items);
  origin : g.S.Stores.origin l.stores ≡ g.S.Stores.origin l.fn.stores;
}
