use Rattle.std.proofs.Common.{ℕ, List, subst}
use Rattle.qz_stores.specs.Stores.{Submits}
use Rattle.qz_trigger_store.specs.Entries.{adopted_entry}
use Rattle.qz_trigger_store.specs.View.{view}
use Rattle.qz_trigger_store.proofs.Adopted.{as_adopted}
use Rattle.qz_trigger_store.proofs.Images.{rests_as_before, then_as_before}
use Rattle.qz_trigger_store.proofs.Kept.{schedules_kept}
use Rattle.qz_trigger_store.proofs.stores.TriggerStore.adopt.Goals as goal

pub returns-in-Ok-clause-one : goal.returns-in-Ok-clause-one
returns-in-Ok-clause-one g c =
    as_adopted c.args.self.now c.prepare_adopted.new.self c.commit.new.self c.args.entry c.args.payload.now c.commit.result c.prepare_adopted.ensures.same
    (subst (λ (b : List ℕ). Submits (adopted_entry b) c.args.entry c.commit.result (view c.prepare_adopted.new.self) (view c.commit.new.self)) c.in-Ok.ensures.record c.commit.ensures.one)

-- a call that touched no device
pub returns-in-Err-clause-any_moment : goal.returns-in-Err-clause-any_moment
returns-in-Err-clause-any_moment g c honest =
    let s = c.args.self.now in
    rests_as_before s c.prepare_adopted.new.self c.prepare_adopted.ensures.same (g.met.D.Disk.lawful honest s.store.journal.disk) honest

pub returns-in-Ok-clause-any_moment : goal.returns-in-Ok-clause-any_moment
returns-in-Ok-clause-any_moment g c honest = then_as_before c.args.self.now c.prepare_adopted.new.self c.commit.new.self c.prepare_adopted.ensures.same (c.commit.ensures.any_moment honest)

pub returns-in-Ok-clause-schedules : goal.returns-in-Ok-clause-schedules
returns-in-Ok-clause-schedules g c = schedules_kept c.commit.new.self

pub returns-in-Err-clause-schedules : goal.returns-in-Err-clause-schedules
returns-in-Err-clause-schedules g c = schedules_kept c.prepare_adopted.new.self
