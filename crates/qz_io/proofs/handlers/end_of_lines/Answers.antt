use Rattle.qz_io.proofs.AheadLaws.{ahead-line, ahead-rest, some_ahead, some_long, end_ahead}
use Rattle.qz_io.proofs.handlers.end_of_lines.Goals as goal

pub returns-in-Ok-End-clause-done : goal.returns-in-Ok-End-clause-done
returns-in-Ok-End-clause-done g c = end_ahead _ _ _ _ (rw c.in-Ok-End.field-0-is at c.in-Ok-End.ensures.found)

pub returns-in-Ok-Line-clause-done : goal.returns-in-Ok-Line-clause-done
returns-in-Ok-Line-clause-done g c = some_ahead _ _ _ _ (ahead-line _ _ _ _ (rw c.in-Ok-Line.field-0-is at c.in-Ok-Line.ensures.found))

pub returns-in-Ok-LastLine-clause-done : goal.returns-in-Ok-LastLine-clause-done
returns-in-Ok-LastLine-clause-done g c = some_ahead _ _ _ _ (ahead-rest _ _ _ _ (rw c.in-Ok-LastLine.field-0-is at c.in-Ok-LastLine.ensures.found))

pub returns-in-Ok-TooLong-clause-done : goal.returns-in-Ok-TooLong-clause-done
returns-in-Ok-TooLong-clause-done g c = some_long _ _ _ _ (rw c.in-Ok-TooLong.field-0-is at c.in-Ok-TooLong.ensures.found)
