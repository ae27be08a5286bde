use Rattle.qz_stores.proofs.Adopted.{submits_ok}
use Rattle.qz_stores.proofs.Moments.{rests_as_before, then_as_before}
use Rattle.qz_stores.proofs.stores.Store.submit.Goals as goal

pub returns-in-Err-clause-leaves : goal.returns-in-Err-clause-leaves
returns-in-Err-clause-leaves g c honest =
    let s = c.args.self.now in
    rests_as_before g.met.K.Kind.lawful s c.prepare.new.self c.in-Err.ensures.same (g.met.D.Disk.lawful honest s.journal.disk) honest

pub returns-in_ok-entry-in-Ok-clause-leaves : goal.returns-in_ok-entry-in-Ok-clause-leaves
returns-in_ok-entry-in-Ok-clause-leaves g c honest =
    then_as_before g.met.K.Kind.lawful c.args.self.now c.prepare.new.self c.commit.new.self c.in-Ok.ensures.same (c.commit.ensures.leaves honest)

pub returns-in_err-entry-in-Ok-clause-leaves : goal.returns-in_err-entry-in-Ok-clause-leaves
returns-in_err-entry-in-Ok-clause-leaves g c honest =
    then_as_before g.met.K.Kind.lawful c.args.self.now c.prepare.new.self c.commit.new.self c.in-Ok.ensures.same (c.commit.ensures.leaves honest)

pub returns-in_ok-entry-in-Ok-clause-one : goal.returns-in_ok-entry-in-Ok-clause-one
returns-in_ok-entry-in-Ok-clause-one g c =
    submits_ok g.met.K.Kind.lawful c.args.self.now c.prepare.new.self c.commit.new.self c.args.entry c.in-Ok.ready.record c.in-Ok.ensures.same c.in-Ok.ensures.current c.in-Ok.ensures.record.0 c.in_ok-entry-in-Ok.reply c.in_ok-entry-in-Ok.ensures.ok.1
