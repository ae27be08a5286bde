use Rattle.std.proofs.Common.{refl}
use Rattle.qz_io.proofs.AheadLaws.{ahead-long}
use Rattle.qz_io.proofs.TurnLaws.{HandlesLast-line, RefusesNext-line, RefusesNext-last}
use Rattle.qz_io.proofs.handlers.handle_next.Goals as goal

pub returns-in-Err-handle-clause-done : goal.returns-in-Err-handle-clause-done
returns-in-Err-handle-clause-done g c =
    RefusesNext-line _ _ _ _ _ _ _ _ _ (rw c.in-Ok-Line.field-0-is at c.in-Ok-Line.ensures.found) (rw c.line.ensures at c.in-Err-handle.ensures)

pub returns-in-Ok-handle-clause-done : goal.returns-in-Ok-handle-clause-done
returns-in-Ok-handle-clause-done g c =
    HandlesLast-line _ _ _ _ _ _ _ (rw c.in-Ok-LastLine.field-0-is at c.in-Ok-LastLine.ensures.found) (rw c.line-in-Ok-LastLine.ensures at c.in-Ok-handle.ensures)

pub returns-in-Err-handle-2-clause-done : goal.returns-in-Err-handle-2-clause-done
returns-in-Err-handle-2-clause-done g c =
    RefusesNext-last _ _ _ _ _ _ _ _ _ (rw c.in-Ok-LastLine.field-0-is at c.in-Ok-LastLine.ensures.found) (rw c.line-in-Ok-LastLine.ensures at c.in-Err-handle-2.ensures)

pub returns-in-Ok-TooLong-clause-done : goal.returns-in-Ok-TooLong-clause-done
returns-in-Ok-TooLong-clause-done g c = (ahead-long _ _ _ _ (rw c.in-Ok-TooLong.field-0-is at c.in-Ok-TooLong.ensures.found), refl, refl)
