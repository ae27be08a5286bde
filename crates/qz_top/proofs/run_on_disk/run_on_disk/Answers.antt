use Rattle.std.proofs.Common.{inl}
use Rattle.qz_io.specs.Around.{output_alone}
use Rattle.qz_top.proofs.OpenLaws.{runs_none}
use Rattle.qz_top.proofs.run_on_disk.run_on_disk.Goals as goal

pub run_opened-requires-clause-keeps : goal.run_opened-requires-clause-keeps
run_opened-requires-clause-keeps g c = c.in-Ok.ensures.ok.keeps

pub run_opened-requires-clause-current : goal.run_opened-requires-clause-current
run_opened-requires-clause-current g c = c.in-Ok.ensures.ok.current

pub returns-in-Ok-clause-done : goal.returns-in-Ok-clause-done
returns-in-Ok-clause-done g c = inl (inl (c.run_opened.ensures.done c.args.triggers c.args.states c.in-Ok.ensures.ok))

pub returns-in-Ok-clause-disk : goal.returns-in-Ok-clause-disk
returns-in-Ok-clause-disk g c = c.run_opened.ensures.disk c.args.triggers c.args.states c.in-Ok.ensures.ok

pub returns-in-Err-clause-done : goal.returns-in-Err-clause-done
returns-in-Err-clause-done g c = runs_none _ _ _ _ _ _ (c.in-Err.ensures.err (output_alone g.K.Sink c.args.out.now))
