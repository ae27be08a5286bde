-- What the top call on the system's clock promises: its clauses, one by one.
use Rattle.std.specs.Prelude.{ℤ, List, Result}
use Rattle.qz_civil.specs.Causes.{Rose}
use Rattle.qz_disk.specs.declared.disk.Disk.{Ghosts}
use Rattle.qz_io.specs.Outside.{Outside}
use Rattle.qz_io.specs.declared.traits.Sink as sink
use Rattle.qz_node.specs.Jobs.{JobMeaning}
use Rattle.qz_words.specs.declared.serves.Serving.{Serving}
use Rattle.qz_words.specs.declared.wishes.WordFault.{WordFault}
use Rattle.qz_top.specs.HandingOn.{HandsOnWritten}
use Rattle.qz_top.specs.Statuses.{Reported}
use Rattle.qz_serve.specs.Serves.{DidAsAsked, DiskFailed, HasCause}
use Rattle.qz_serve.specs.declared.served.Served.{Served}

-- A call with these words, jobs and disks, whose clock showed these readings, gave this back, and changed the outside, the output and
-- the error output so.
pub record Promised {D K E : Type 0} (g : Ghosts D) (k : sink.Ghosts K) (x : sink.Ghosts E) (shows : ℤ → Type 0) (w : Result Serving WordFault) (jobs jobs' : List (List JobMeaning))
    (triggers states : D) (s : Served D) (old new : Outside) (out out' : K) (err err' : E) : Type 0 where
  pub done : DidAsAsked g shows w jobs jobs' triggers states s old new
  pub cause : HasCause s.status w (Rose (k.faults out) (k.faults out')) (DiskFailed g triggers states s.disks)
  pub handed : HandsOnWritten k out out'
  pub reported : Reported x s.status err err'
