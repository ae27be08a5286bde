use Rattle.std.proofs.Common.{refl}
use Rattle.std.proofs.Math.Logic.{∥∥₁_map}
use Rattle.qz_types.specs.declared.stores.Store.TheVariants.{Triggers, States}
use Rattle.qz_trigger_store.specs.Kinds.{trigger_kind}
use Rattle.qz_trigger_store.specs.View.{IsTold as TriggersTold}
use Rattle.qz_checkin.specs.Kinds.{state_kind}
use Rattle.qz_checkin.specs.View.{view as states_view, IsTold as StatesTold}
use Rattle.qz_cluster.specs.View.{IsTold}
use Rattle.qz_cluster.proofs.AtRest.{states_rest}
use Rattle.qz_cluster.proofs.Restarts.{opens_after, unread_ends, unread_stands, stays_shut, triggers_leave, states_leave}
use Rattle.qz_cluster.proofs.Told.{triggers_told, states_told}
use Rattle.qz_cluster.proofs.Under.{opens_under}
use Rattle.qz_cluster.proofs.clusters.Cluster.reopen.Goals as goal

pub returns-in-Ok-reread-clause-ok : goal.returns-in-Ok-reread-clause-ok
returns-in-Ok-reread-clause-ok g c at =
    let s = c.args.self.now in
    let triggers = c.reread.new.self in
    let states = c.reread-in-Ok.new.self in
    record {
      asked = refl;
      triggers = opens_after trigger_kind (IsTold s) _ _ _ c.in-Ok.ensures.shut
          (opens_under trigger_kind (IsTold s) (TriggersTold triggers) _ _ (λ told. ∣ triggers_told s.triggers triggers c.in-Ok.ensures.any_moment told.0 ∣₁) c.open.ensures.opens);
      states = opens_after state_kind (IsTold s) _ _ _ c.in-Ok-reread.ensures.shut
          (opens_under state_kind (IsTold s) (StatesTold states) _ _ (λ told. ∣ states_told s.states states c.in-Ok-reread.ensures.any_moment told.1 ∣₁) c.open-in-Ok-reread.ensures.opens);
      are_triggers = c.open.ensures.opened;
      are_states = c.open-in-Ok-reread.ensures.opened;
      held = c.requires.held;
    }

pub returns-in-Err-reread-clause-err : goal.returns-in-Err-reread-clause-err
returns-in-Err-reread-clause-err g c at =
    unread_ends (IsTold c.args.self.now) States c.in-Err-reread.error at c.unread.result _ _ c.unread.ensures
    (record { triggers = c.in-Ok.ensures.shut; states = c.in-Err-reread.ensures.shut; held = c.requires.held })
    (λ told. ∥∥₁_map told.1.1 (λ x. c.in-Err-reread.ensures.refused told.1.0 x.0 x.1))

pub returns-in-Err-clause-err : goal.returns-in-Err-clause-err
returns-in-Err-clause-err g c at =
    unread_ends (IsTold c.args.self.now) Triggers c.in-Err.error at c.unread-in-Err.result _ _ c.unread-in-Err.ensures
    (record { triggers = c.in-Err.ensures.shut; states = stays_shut (states_view c.args.self.now.states) c.requires.states; held = c.requires.held })
    (λ told. ∥∥₁_map told.0.1 (λ x. c.in-Err.ensures.refused told.0.0 x.0 x.1))

pub returns-in-Err-reread-clause-standing : goal.returns-in-Err-reread-clause-standing
returns-in-Err-reread-clause-standing g c was = unread_stands States c.in-Err-reread.error c.unread.result _ was c.unread.ensures c.requires.standing

pub returns-in-Err-clause-standing : goal.returns-in-Err-clause-standing
returns-in-Err-clause-standing g c was = unread_stands Triggers c.in-Err.error c.unread-in-Err.result _ was c.unread-in-Err.ensures c.requires.standing

-- moments

pub returns-in-Ok-reread-clause-any_moment : goal.returns-in-Ok-reread-clause-any_moment
returns-in-Ok-reread-clause-any_moment g c honest =
    let s = c.args.self.now in
    record {
      triggers = triggers_leave s.triggers c.reread.new.self c.open.new.self c.in-Ok.ensures.shut (c.in-Ok.ensures.any_moment honest) (c.open.ensures.any_moment honest);
      states = states_leave s.states c.reread-in-Ok.new.self c.open-in-Ok-reread.new.self c.in-Ok-reread.ensures.shut (c.in-Ok-reread.ensures.any_moment honest) (c.open-in-Ok-reread.ensures.any_moment honest);
    }

pub returns-in-Err-reread-clause-any_moment : goal.returns-in-Err-reread-clause-any_moment
returns-in-Err-reread-clause-any_moment g c honest = record { triggers = c.in-Ok.ensures.any_moment honest; states = c.in-Err-reread.ensures.any_moment honest }

pub returns-in-Err-clause-any_moment : goal.returns-in-Err-clause-any_moment
returns-in-Err-clause-any_moment g c honest =
    let s = c.args.self.now in
    record { triggers = c.in-Err.ensures.any_moment honest; states = states_rest s.states (g.met.D.Disk.lawful honest s.states.store.journal.disk) honest }
