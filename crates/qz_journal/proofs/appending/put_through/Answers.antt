use Rattle.qz_journal.proofs.Calls.{put_failed, puts}
use Rattle.qz_journal.proofs.appending.put_through.Goals as goal

pub returns-in_err-write_at-clause-told : goal.returns-in_err-write_at-clause-told
returns-in_err-write_at-clause-told g c h = put_failed _ _ _ _ _ _ c.from_residual.ensures.0 (g.met.D.Disk.lawful h c.args.disk.now) (c.in_err-write_at.ensures.told h)

pub returns-clause-told : goal.returns-clause-told
returns-clause-told g c h =
    puts _ _ _ _ _ _ _ (g.met.D.Disk.lawful h c.args.disk.now) (g.met.D.Disk.lawful h c.write_at.new.self) (c.in_ok-write_at.ensures.told h) (c.sync.ensures.told h)
