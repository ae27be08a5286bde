use Rattle.std.proofs.Common.{◌≡◌, ◌<◌, ◌-◌, length, map}
use Rattle.qz_run.specs.declared.stores.TheConstants.{ROOM}
use Rattle.qz_run.specs.Laws.{fires}
use Rattle.qz_run.specs.RoundRules.{GoesOn}
use Rattle.qz_run.specs.Moments.{Passes, HasBegun}
use Rattle.qz_top.proofs.nodes.moments.work_off.Given as goal

abbrev pub invariant-loop-why : goal.invariant-loop-why
invariant-loop-why g l = record {
  passes : Passes l.plan l.clock.at l.resting (g.S.Stores.state l.stores);
  fired_is : l.fired ≡ fires (g.S.Stores.state l.stores).log;
  within : l.fired < l.plan.budget;
  begun : HasBegun l.plan l.resting (g.S.Stores.state l.fn.stores) (g.S.Stores.state l.stores);
  calls : GoesOn (g.S.Stores.state l.fn.stores) (g.S.Stores.state l.stores)
      (map (λ b. (goal.Job-dyn g (b.vtable, b.value)).means b.value) l.fn.jobs.items)
      (map (λ b. (goal.Job-dyn g (b.vtable, b.value)).means b.value) l.jobs.items);
  origin : g.S.Stores.origin l.stores ≡ g.S.Stores.origin l.fn.stores;
}

abbrev pub decreases-loop-why : goal.decreases-loop-why
decreases-loop-why g l = ROOM - length (g.S.Stores.state l.stores).log
