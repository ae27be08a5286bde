use Rattle.std.proofs.Common.{refl, sym, ◌∙◌}
use Rattle.std.specs.Prelude.{IfOk, IfErr}
use Rattle.qz_steps.specs.declared.steps.Step.TheVariants.{Join}
use Rattle.qz_cluster.specs.Steps.{StepCase, EndCase}
use Rattle.qz_cluster.specs.View.{view, IsTold}
use Rattle.qz_cluster.proofs.AtRest.{rests}
use Rattle.qz_cluster.proofs.StepCases.{join_declined, join_cut, the_same}
use Rattle.qz_cluster.proofs.Unaccepted.{all_joined_too, same_here}
use Rattle.qz_cluster.proofs.clusters.Cluster.join.Goals as goal

-- nothing was done
pub returns-then-closed-clause-any_moment : goal.returns-then-closed-clause-any_moment
returns-then-closed-clause-any_moment g c honest =
    let s = c.args.self.now in
    rests s (g.met.D.Disk.lawful honest s.triggers.store.journal.disk) (g.met.D.Disk.lawful honest s.states.store.journal.disk) honest

-- it was decided without memory
pub returns-in-Err-clause-ok : goal.returns-in-Err-clause-ok
returns-in-Err-clause-ok g c =
    let S = view c.args.self.now in
    join_declined (IsTold c.args.self.now) c.args.node c.args.interval c.args.at c.decide_check_in.result S S (sym c.closed.ensures ∙ c.if-closed.false)
    (c.decide_check_in.ensures.ok c.args.at c.args.interval) (same_here S.triggers) refl

pub returns-in-Err-clause-err : goal.returns-in-Err-clause-err
returns-in-Err-clause-err g c =
    let S = view c.args.self.now in
    join_cut (IsTold c.args.self.now) c.args.node c.args.interval c.args.at c.decide_check_in.result S S (sym c.closed.ensures ∙ c.if-closed.false)
    (c.decide_check_in.ensures.err c.args.at c.args.interval) (same_here S.triggers) refl

pub returns-in-Err-clause-keeps : goal.returns-in-Err-clause-keeps
returns-in-Err-clause-keeps g c = all_joined_too c.decide_check_in.result _ _ c.decide_check_in.ensures.keeps

-- the node's epoch has room
pub returns-in-Ok-clause-ok : goal.returns-in-Ok-clause-ok
returns-in-Ok-clause-ok g c =
    the_same (λ i at. IfOk c.join_in_room.result (λ r. StepCase (IsTold c.args.self.now) (record { step = Join c.args.node i; at = at }) r (view c.args.self.now) (view c.join_in_room.new.self)))
    c.args.interval c.args.at c.ranges.interval c.ranges.at c.join_in_room.ensures.ok

pub returns-in-Ok-clause-err : goal.returns-in-Ok-clause-err
returns-in-Ok-clause-err g c =
    the_same (λ i at. IfErr c.join_in_room.result (λ e. EndCase (IsTold c.args.self.now) (record { step = Join c.args.node i; at = at }) e (view c.args.self.now) (view c.join_in_room.new.self)))
    c.args.interval c.args.at c.ranges.interval c.ranges.at c.join_in_room.ensures.err
