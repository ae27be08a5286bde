use Rattle.std.proofs.Common.{w64, not, sym, ap, subst, ◌∙◌}
use Rattle.std.proofs.lemmas.Int.{to_z-of_z}
use Rattle.std.specs.Prelude.{IfOk, IfErr}
use Rattle.qz_types.specs.Words.{member_of}
use Rattle.qz_trigger_store.specs.View.{view as store_view}
use Rattle.qz_steps.specs.declared.steps.Step.TheVariants.{Forget}
use Rattle.qz_cluster.specs.Steps.{StepCase, EndCase}
use Rattle.qz_cluster.specs.View.{view, IsTold}
use Rattle.qz_cluster.proofs.AtRest.{rests}
use Rattle.qz_cluster.proofs.NodeCases.{not_member, forgot, forgot_not}
use Rattle.qz_cluster.proofs.StepCases.{holds_one, untouched}
use Rattle.qz_cluster.proofs.clusters.Cluster.forget.Goals as goal

-- nothing was done
pub returns-then-closed-clause-any_moment : goal.returns-then-closed-clause-any_moment
returns-then-closed-clause-any_moment g c honest =
    let s = c.args.self.now in
    rests s (g.met.D.Disk.lawful honest s.triggers.store.journal.disk) (g.met.D.Disk.lawful honest s.states.store.journal.disk) honest

pub returns-then-is_none-clause-any_moment : goal.returns-then-is_none-clause-any_moment
returns-then-is_none-clause-any_moment g c honest =
    let s = c.args.self.now in
    rests s (g.met.D.Disk.lawful honest s.triggers.store.journal.disk) (g.met.D.Disk.lawful honest s.states.store.journal.disk) honest

pub returns-then-is_member-clause-any_moment : goal.returns-then-is_member-clause-any_moment
returns-then-is_member-clause-any_moment g c honest =
    let s = c.args.self.now in
    rests s (g.met.D.Disk.lawful honest s.triggers.store.journal.disk) (g.met.D.Disk.lawful honest s.states.store.journal.disk) honest

pub returns-clause-ok : goal.returns-clause-ok
returns-clause-ok g c =
    let s = c.args.self.now in
    subst (λ at. IfOk c.submit_forget.result (λ r. StepCase (IsTold s) (record { step = Forget c.args.node.now c.args.failed.now; at = at }) r (view s) (view c.submit_forget.new.self))) (to_z-of_z w64 c.args.at c.ranges.at)
    (forgot (IsTold s) c.args.node.now c.args.failed.now _ (view s) (view c.submit_forget.new.self) (sym c.closed.ensures ∙ c.if-closed.false)
    (holds_one _ c.epoch_of.result _ (c.epoch_of.ensures ∙ ap (member_of c.args.node.now) c.deref.ensures.value) (c.is_none.ensures ∙ ap not c.if-is_none.false))
    (not_member _ c.args.failed.now (sym c.is_member.ensures ∙ c.if-is_member.false)) (untouched store_view s.triggers _ c.submit_forget.ensures.triggers) (ap (λ h. h.items) c.submit_forget.ensures.held)
    c.submit_forget.result c.submit_forget.ensures.ok)

pub returns-clause-err : goal.returns-clause-err
returns-clause-err g c =
    let s = c.args.self.now in
    subst (λ at. IfErr c.submit_forget.result (λ r. EndCase (IsTold s) (record { step = Forget c.args.node.now c.args.failed.now; at = at }) r (view s) (view c.submit_forget.new.self))) (to_z-of_z w64 c.args.at c.ranges.at)
    (forgot_not (IsTold s) c.args.node.now c.args.failed.now _ (view s) (view c.submit_forget.new.self) (sym c.closed.ensures ∙ c.if-closed.false)
    (holds_one _ c.epoch_of.result _ (c.epoch_of.ensures ∙ ap (member_of c.args.node.now) c.deref.ensures.value) (c.is_none.ensures ∙ ap not c.if-is_none.false))
    (not_member _ c.args.failed.now (sym c.is_member.ensures ∙ c.if-is_member.false)) (untouched store_view s.triggers _ c.submit_forget.ensures.triggers) (ap (λ h. h.items) c.submit_forget.ensures.held)
    c.submit_forget.result c.submit_forget.ensures.err)
