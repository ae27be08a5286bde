use Rattle.std.proofs.Common.{not, sym, ap, ◌∙◌}
use Rattle.qz_types.specs.Words.{member_of}
use Rattle.qz_trigger_store.specs.View.{view as store_view}
use Rattle.std.specs.Prelude.{IfOk, IfErr}
use Rattle.qz_steps.specs.declared.steps.Step.TheVariants.{CheckIn}
use Rattle.qz_cluster.specs.Steps.{StepCase, EndCase}
use Rattle.qz_cluster.specs.View.{view, IsTold}
use Rattle.qz_cluster.proofs.AtRest.{rests}
use Rattle.qz_cluster.proofs.StepCases.{the_same, holds_one, untouched, checked_in, check_in_cut}
use Rattle.qz_cluster.proofs.clusters.Cluster.check_in.Goals as goal

-- nothing was done
pub returns-then-closed-clause-any_moment : goal.returns-then-closed-clause-any_moment
returns-then-closed-clause-any_moment g c honest =
    let s = c.args.self.now in
    rests s (g.met.D.Disk.lawful honest s.triggers.store.journal.disk) (g.met.D.Disk.lawful honest s.states.store.journal.disk) honest

pub returns-then-is_none-clause-any_moment : goal.returns-then-is_none-clause-any_moment
returns-then-is_none-clause-any_moment g c honest =
    let s = c.args.self.now in
    rests s (g.met.D.Disk.lawful honest s.triggers.store.journal.disk) (g.met.D.Disk.lawful honest s.states.store.journal.disk) honest

-- it was submitted
pub returns-clause-ok : goal.returns-clause-ok
returns-clause-ok g c =
    the_same (λ i at. IfOk c.submit_check_in.result (λ r. StepCase (IsTold c.args.self.now) (record { step = CheckIn c.args.node.now i; at = at }) r (view c.args.self.now) (view c.submit_check_in.new.self)))
    c.args.interval c.args.at c.ranges.interval c.ranges.at
    (checked_in (IsTold c.args.self.now) c.args.node.now _ _ c.submit_check_in.result (view c.args.self.now) (view c.submit_check_in.new.self) (sym c.closed.ensures ∙ c.if-closed.false)
    (holds_one _ c.epoch_of.result _ (c.epoch_of.ensures ∙ ap (member_of c.args.node.now) c.deref.ensures.value) (c.is_none.ensures ∙ ap not c.if-is_none.false))
    c.submit_check_in.ensures.ok (untouched store_view c.args.self.now.triggers _ c.submit_check_in.ensures.triggers) (ap (λ h. h.items) c.submit_check_in.ensures.held))

pub returns-clause-err : goal.returns-clause-err
returns-clause-err g c =
    the_same (λ i at. IfErr c.submit_check_in.result (λ e. EndCase (IsTold c.args.self.now) (record { step = CheckIn c.args.node.now i; at = at }) e (view c.args.self.now) (view c.submit_check_in.new.self)))
    c.args.interval c.args.at c.ranges.interval c.ranges.at
    (check_in_cut (IsTold c.args.self.now) c.args.node.now _ _ c.submit_check_in.result (view c.args.self.now) (view c.submit_check_in.new.self) (sym c.closed.ensures ∙ c.if-closed.false)
    (holds_one _ c.epoch_of.result _ (c.epoch_of.ensures ∙ ap (member_of c.args.node.now) c.deref.ensures.value) (c.is_none.ensures ∙ ap not c.if-is_none.false))
    c.submit_check_in.ensures.err (untouched store_view c.args.self.now.triggers _ c.submit_check_in.ensures.triggers) (ap (λ h. h.items) c.submit_check_in.ensures.held))
