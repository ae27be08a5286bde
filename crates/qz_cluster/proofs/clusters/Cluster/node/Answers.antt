use Rattle.std.proofs.Common.{w64, sym, ap, subst, ◌∙◌}
use Rattle.std.proofs.lemmas.Int.{to_z-of_z}
use Rattle.std.specs.Prelude.{ℕ, IfOk, IfErr, option_map}
use Rattle.qz_types.specs.Words.{member_of}
use Rattle.qz_checkin.specs.View.{view as states_view}
use Rattle.qz_steps.specs.declared.steps.Step.TheVariants.{Node}
use Rattle.qz_cluster.specs.Steps.{StepCase, EndCase}
use Rattle.qz_cluster.specs.View.{view, IsTold}
use Rattle.qz_cluster.proofs.AtRest.{rests}
use Rattle.qz_cluster.proofs.NodeCases.{obeyed, obeyed_not}
use Rattle.qz_cluster.proofs.StepCases.{untouched}
use Rattle.qz_cluster.proofs.clusters.Cluster.node.Goals as goal

-- nothing was done
pub returns-then-is_closed_for-clause-any_moment : goal.returns-then-is_closed_for-clause-any_moment
returns-then-is_closed_for-clause-any_moment g c honest =
    let s = c.args.self.now in
    rests s (g.met.D.Disk.lawful honest s.triggers.store.journal.disk) (g.met.D.Disk.lawful honest s.states.store.journal.disk) honest

pub returns-in_default-clause-any_moment : goal.returns-in_default-clause-any_moment
returns-in_default-clause-any_moment g c honest =
    let s = c.args.self.now in
    rests s (g.met.D.Disk.lawful honest s.triggers.store.journal.disk) (g.met.D.Disk.lawful honest s.states.store.journal.disk) honest

pub returns-in-Some-not_late-clause-any_moment : goal.returns-in-Some-not_late-clause-any_moment
returns-in-Some-not_late-clause-any_moment g c honest =
    let s = c.args.self.now in
    rests s (g.met.D.Disk.lawful honest s.triggers.store.journal.disk) (g.met.D.Disk.lawful honest s.states.store.journal.disk) honest

pub returns-in-None-clause-ok : goal.returns-in-None-clause-ok
returns-in-None-clause-ok g c =
    let s = c.args.self.now in
    subst (λ at. IfOk c.obey.result (λ r. StepCase (IsTold s) (record { step = Node c.args.node c.args.command; at = at }) r (view s) (view c.obey.new.self))) (to_z-of_z w64 c.args.at c.ranges.at)
    (obeyed (IsTold s) c.args.node c.args.command _ c.in-Some.epoch (view s) (view c.obey.new.self) (sym c.is_closed_for.ensures ∙ c.if-is_closed_for.false)
    (sym (c.epoch_of.ensures ∙ ap (member_of c.args.node) c.deref.ensures.value) ∙ ap (option_map (λ (e : ℕ). record { node = c.args.node; epoch = e })) c.in-Some.is)
    (sym c.not_late.ensures ∙ c.in-None.is) (untouched states_view s.states _ c.obey.ensures.states) c.obey.result c.obey.ensures.ok c.obey.ensures.held)

pub returns-in-None-clause-err : goal.returns-in-None-clause-err
returns-in-None-clause-err g c =
    let s = c.args.self.now in
    subst (λ at. IfErr c.obey.result (λ r. EndCase (IsTold s) (record { step = Node c.args.node c.args.command; at = at }) r (view s) (view c.obey.new.self))) (to_z-of_z w64 c.args.at c.ranges.at)
    (obeyed_not (IsTold s) c.args.node c.args.command _ c.in-Some.epoch (view s) (view c.obey.new.self) (sym c.is_closed_for.ensures ∙ c.if-is_closed_for.false)
    (sym (c.epoch_of.ensures ∙ ap (member_of c.args.node) c.deref.ensures.value) ∙ ap (option_map (λ (e : ℕ). record { node = c.args.node; epoch = e })) c.in-Some.is)
    (sym c.not_late.ensures ∙ c.in-None.is) (untouched states_view s.states _ c.obey.ensures.states) (ap (λ h. h.items)) c.obey.result c.obey.ensures.err c.obey.ensures.held_stays)
