use Rattle.std.proofs.Common.{inl}
use Rattle.qz_top.proofs.list_on_disk.list_on_disk.Goals as goal

pub returns-in-Ok-clause-done : goal.returns-in-Ok-clause-done
returns-in-Ok-clause-done g c = inl (c.list_opened.ensures.done c.args.triggers c.args.states c.in-Ok.ensures.ok)
