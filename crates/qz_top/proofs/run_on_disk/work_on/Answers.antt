use Rattle.std.proofs.Common.{◌≡◌, ◌∙◌}
use Rattle.qz_run_stores.specs.Going.{TriggersWent, StatesWent}
use Rattle.qz_run_stores.specs.View.{origin, triggers_of, states_of}
use Rattle.qz_top.proofs.NodeRunLaws.{worked_by, worked_to, went_to, states_went_to}
use Rattle.qz_top.proofs.run_on_disk.work_on.Goals as goal

pub returns-clause-worked : goal.returns-clause-worked
returns-clause-worked g c =
    let ran = c.run_nodes-end.ensures in
    let back = c.into_stores-triggers.ensures in
    let x = c.run_nodes-end.new.stores in
    let from : origin x ≡ record { triggers = c.args.triggers; states = c.args.states } = ran.origin ∙ c.new-stores.ensures.begun in
    let went : TriggersWent (origin x).triggers (triggers_of x) = rw back.stores.0 at back.triggers in
    let rows : StatesWent (origin x).states (states_of x) = rw back.stores.1 at back.states in
    let worked = worked_by _ _ _ _ x went rows back.counted.0 back.counted.1 ran.lawful ran.states ran.ends ran.stopped ran.jobs ran.jobs_at_error in
    worked_to _ _ _ _ _ x _ _ _ _ c.status_of.ensures.value from back.stores.0 back.stores.1 worked

pub returns-clause-triggers : goal.returns-clause-triggers
returns-clause-triggers g c =
    let from : origin c.run_nodes-end.new.stores ≡ record { triggers = c.args.triggers; states = c.args.states } = c.run_nodes-end.ensures.origin ∙ c.new-stores.ensures.begun in
    went_to c.run_nodes-end.new.stores _ _ _ from c.into_stores-triggers.ensures.triggers

pub returns-clause-states : goal.returns-clause-states
returns-clause-states g c =
    let from : origin c.run_nodes-end.new.stores ≡ record { triggers = c.args.triggers; states = c.args.states } = c.run_nodes-end.ensures.origin ∙ c.new-stores.ensures.begun in
    states_went_to c.run_nodes-end.new.stores _ _ _ from c.into_stores-triggers.ensures.states
