use Rattle.qz_serve.proofs.calls.disks_are_lawful.Goals as goal

pub returns : goal.returns
returns g c honest disk = g.met.D.Disk.lawful honest disk
