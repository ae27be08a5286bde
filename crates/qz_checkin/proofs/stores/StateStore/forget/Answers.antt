use Rattle.qz_checkin.proofs.Images.{rests}
use Rattle.qz_checkin.proofs.stores.StateStore.forget.Goals as goal

pub returns-in-Err-clause-any_moment : goal.returns-in-Err-clause-any_moment
returns-in-Err-clause-any_moment g c honest = rests c.args.self.now (g.met.D.Disk.lawful honest c.args.self.now.store.journal.disk) honest

pub returns-in_default-copy-clause-any_moment : goal.returns-in_default-copy-clause-any_moment
returns-in_default-copy-clause-any_moment g c honest = rests c.args.self.now (g.met.D.Disk.lawful honest c.args.self.now.store.journal.disk) honest
