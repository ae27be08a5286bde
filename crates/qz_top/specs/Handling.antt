-- What the handler of a script's lines makes of a line.
use Rattle.std.specs.Prelude.{◌≡◌, ◌≤◌, ℕ, List, Result, IsOk, Err}
use Rattle.qz_civil.specs.Causes.{Rose}
use Rattle.qz_disk.specs.declared.disk.Disk.{Ghosts}
use Rattle.qz_io.specs.declared.traits.Clock as clock
use Rattle.qz_io.specs.declared.traits.Sink as sink
use Rattle.qz_io.specs.Around.{without_input}
use Rattle.qz_io.specs.LineStates.{LineState}
use Rattle.qz_top.specs.Moments.{Shows}
use Rattle.qz_top.specs.Seen.{view, told_of}
use Rattle.qz_top.specs.LineOutcomes.{LineDone}
use Rattle.qz_top.specs.declared.runs.Run.{Run}
use Rattle.qz_top.specs.declared.line_handler.LineEnd.{LineEnd}
use Rattle.qz_top.specs.declared.line_handler.LineEnd.TheVariants as ends

-- The line was done and answered, and the state after its step was shown; or it ended the script. The output's count of
-- faults never falls, and rose where the output is said to have failed.
pub record Does {D K C : Type 0} {g : Ghosts D} (k : sink.Ghosts K) (c : clock.Ghosts C) (line : List ℕ) (result : Result (Unit {0}) LineEnd)
    (old new : LineState (Run D g) K C) : Type 0 where
  pub done : LineDone (told_of old.handler) result line (view old.handler) (view new.handler) (without_input k c old.out old.rest) (without_input k c new.out new.rest)
  pub shows : Shows (IsOk result) old.handler new.handler
  pub later : k.faults old.out ≤ k.faults new.out
  pub rose : result ≡ Err ends.WriteFault → Rose (k.faults old.out) (k.faults new.out)
