use Rattle.std.proofs.Common.{inl}
use Rattle.qz_top.proofs.on_disk.script_on_disk.Goals as goal

pub returns-in-Ok-clause-disk : goal.returns-in-Ok-clause-disk
returns-in-Ok-clause-disk g c = c.run_opened.ensures.disk c.args.triggers c.args.states c.in-Ok.ensures.ok

pub returns-in-Ok-clause-done : goal.returns-in-Ok-clause-done
returns-in-Ok-clause-done g c = inl (c.run_opened.ensures.done c.args.triggers c.args.states c.in-Ok.ensures.ok)
