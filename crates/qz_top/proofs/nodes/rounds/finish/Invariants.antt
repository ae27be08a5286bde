use Rattle.std.proofs.Common.{◌≡◌, ◌-◌, length, map}
use Rattle.qz_run.specs.declared.stores.TheConstants.{ROOM}
use Rattle.qz_run.specs.RoundRules.{GoesOn, IsExecuting, Went}
use Rattle.qz_top.proofs.nodes.rounds.finish.Given as goal

abbrev pub invariant-loop-context : goal.invariant-loop-context
invariant-loop-context g l = record {
  executes : IsExecuting l.plan l.worker.node l.worker.at l.context (g.S.Stores.state l.stores);
  went : Went l.plan l.worker.node l.worker.at (g.S.Stores.state l.fn.stores) (g.S.Stores.state l.stores);
  calls : GoesOn (g.S.Stores.state l.fn.stores) (g.S.Stores.state l.stores)
      (map (λ b. (goal.Job-dyn g (b.vtable, b.value)).means b.value) l.fn.jobs.items)
      (map (λ b. (goal.Job-dyn g (b.vtable, b.value)).means b.value) l.jobs.items);
  origin : g.S.Stores.origin l.stores ≡ g.S.Stores.origin l.fn.stores;
}

abbrev pub decreases-loop-context : goal.decreases-loop-context
decreases-loop-context g l = ROOM - length (g.S.Stores.state l.stores).log
