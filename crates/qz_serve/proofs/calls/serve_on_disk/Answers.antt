use Rattle.std.proofs.Common.{inl, inr, refl}
use Rattle.qz_io.specs.Around.{output_alone}
use Rattle.qz_serve.proofs.Finishing.{did_serve}
use Rattle.qz_serve.proofs.calls.serve_on_disk.Goals as goal

pub serve_opened-requires-clause-keeps : goal.serve_opened-requires-clause-keeps
serve_opened-requires-clause-keeps g c κs within = c.in-Ok.ensures.ok.keeps

pub serve_opened-requires-clause-both_open : goal.serve_opened-requires-clause-both_open
serve_opened-requires-clause-both_open g c κs within = (c.in-Ok.ensures.ok.are_opened.0.is_open, c.in-Ok.ensures.ok.are_opened.1.is_open)

pub returns-in-Ok-clause-done : goal.returns-in-Ok-clause-done
returns-in-Ok-clause-done g c = did_serve _ _ _ _ _ _ _ _ _ (c.serve_opened.ensures.done c.args.triggers c.args.states c.in-Ok.ensures.ok)

pub returns-in-Ok-clause-disk : goal.returns-in-Ok-clause-disk
returns-in-Ok-clause-disk g c = c.serve_opened.ensures.disk c.args.triggers c.args.states c.in-Ok.ensures.ok

pub returns-in-Err-clause-done : goal.returns-in-Err-clause-done
returns-in-Err-clause-done g c = inr (inl (record { ended = c.in-Err.ended; ends = record { status_is = refl; disks = refl }; none = c.in-Err.ensures.err (output_alone g.K.Sink c.args.out.now); same_jobs = refl }))
