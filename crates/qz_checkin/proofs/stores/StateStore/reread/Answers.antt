use Rattle.qz_stores.specs.Restarting.{history_read}
use Rattle.qz_checkin.specs.Bytes.{StandsFrom}
use Rattle.qz_checkin.proofs.Openings.{whole_there, ok_one}
use Rattle.qz_checkin.proofs.stores.StateStore.reread.Goals as goal

pub returns-clause-stands : goal.returns-clause-stands
returns-clause-stands g c honest =
    let b = (g.D.Disk.state c.args.self.now.store.journal.disk).content in
    ok_one c.reread.result (λ reread. StandsFrom reread.version b (history_read reread)) _ (c.reread.ensures.stands honest) (λ reread stands. whole_there reread.version b (history_read reread) stands)
