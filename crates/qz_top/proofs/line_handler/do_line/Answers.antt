use Rattle.qz_top.specs.Seen.{told_of}
use Rattle.qz_top.proofs.MomentLaws.{Shows-none}
use Rattle.qz_top.proofs.OutcomeLaws.{LineDone-step, LineDone-blank, LineDone-unread, not_write}
use Rattle.qz_top.proofs.line_handler.do_line.Goals as goal

pub returns-in-Ok-Some-clause-done : goal.returns-in-Ok-Some-clause-done
returns-in-Ok-Some-clause-done g c = LineDone-step (told_of c.args.run.now) _ _ _ _ _ _ _ (rw c.in-Ok-Some.field-0-is at c.in-Ok-Some.ensures.meaning) c.do_step.ensures.done

pub returns-in-Ok-None-clause-done : goal.returns-in-Ok-None-clause-done
returns-in-Ok-None-clause-done g c = LineDone-blank _ _ _ (rw c.in-Ok-None.field-0-is at c.in-Ok-None.ensures.meaning)

pub returns-in-Err-clause-done : goal.returns-in-Err-clause-done
returns-in-Err-clause-done g c = rw c.end_of.ensures (LineDone-unread (told_of c.args.run.now) c.in-Err.error _ _ _ c.in-Err.ensures.meaning)

pub returns-in-Err-clause-write : goal.returns-in-Err-clause-write
returns-in-Err-clause-write g c e = absurd (not_write c.in-Err.error cc)

pub returns-in-Ok-None-clause-shows : goal.returns-in-Ok-None-clause-shows
returns-in-Ok-None-clause-shows g c = Shows-none _ _

pub returns-in-Err-clause-shows : goal.returns-in-Err-clause-shows
returns-in-Err-clause-shows g c = Shows-none _ _
