use Rattle.std.proofs.Common.{◌≡◌, ◌<◌, ◌≤◌, ◌-◌, length, map}
use Rattle.qz_run.specs.declared.stores.TheConstants.{ROOM}
use Rattle.qz_run.specs.Laws.{fires}
use Rattle.qz_run.specs.RoundRules.{GoesOn}
use Rattle.qz_run.specs.Moments.{Working}
use Rattle.qz_run.specs.RunRules.{MayGoOn}
use Rattle.qz_top.proofs.nodes.working.work.Given as goal

abbrev pub invariant-loop-next : goal.invariant-loop-next
invariant-loop-next g l = record {
  working : Working l.plan l.clock.at (g.S.Stores.state l.stores);
  go_on : l.fired < l.plan.budget → MayGoOn l.plan l.clock.at (g.S.Stores.state l.stores);
  fired_is : l.fired ≡ fires (g.S.Stores.state l.stores).log;
  within : l.fired ≤ l.plan.budget;
  begun : 0 < length (g.S.Stores.state l.stores).log;
  calls : GoesOn (g.S.Stores.state l.fn.stores) (g.S.Stores.state l.stores)
      (map (λ b. (goal.Job-dyn g (b.vtable, b.value)).means b.value) l.fn.jobs.items)
      (map (λ b. (goal.Job-dyn g (b.vtable, b.value)).means b.value) l.jobs.items);
  origin : g.S.Stores.origin l.stores ≡ g.S.Stores.origin l.fn.stores;
}

abbrev pub decreases-loop-next : goal.decreases-loop-next
decreases-loop-next g l = ROOM - length (g.S.Stores.state l.stores).log
