use Rattle.qz_trigger_store.proofs.Adopted.{as_submitted}
use Rattle.qz_trigger_store.proofs.Images.{rests_as_before, then_as_before}
use Rattle.qz_trigger_store.proofs.Kept.{schedules_kept}
use Rattle.qz_trigger_store.proofs.stores.TriggerStore.submit.Goals as goal

-- a call that touched no device
pub returns-in-Err-clause-any_moment : goal.returns-in-Err-clause-any_moment
returns-in-Err-clause-any_moment g c honest =
    let s = c.args.self.now in
    rests_as_before s c.prepare.new.self c.prepare.ensures.same (g.met.D.Disk.lawful honest s.store.journal.disk) honest

pub returns-in-Ok-clause-any_moment : goal.returns-in-Ok-clause-any_moment
returns-in-Ok-clause-any_moment g c honest = then_as_before c.args.self.now c.prepare.new.self c.commit.new.self c.prepare.ensures.same (c.commit.ensures.any_moment honest)

pub returns-in-Ok-clause-schedules : goal.returns-in-Ok-clause-schedules
returns-in-Ok-clause-schedules g c = schedules_kept c.commit.new.self

pub returns-in-Err-clause-schedules : goal.returns-in-Err-clause-schedules
returns-in-Err-clause-schedules g c = schedules_kept c.prepare.new.self

-- what was adopted as the record that is written
pub returns-in-Ok-clause-one : goal.returns-in-Ok-clause-one
returns-in-Ok-clause-one g c =
    as_submitted c.args.self.now c.prepare.new.self c.commit.new.self c.args.entry c.in-Ok.whole.ready.record c.commit.result c.prepare.ensures.same c.in-Ok.ensures.current c.in-Ok.ensures.record.0 c.commit.ensures.only_fault c.commit.ensures.one
