-- What the top call promises: its clauses, one by one.
use Rattle.std.specs.Prelude.{List, Result}
use Rattle.qz_disk.specs.declared.disk.Disk.{Ghosts}
use Rattle.qz_io.specs.Outside.{Outside}
use Rattle.qz_io.specs.declared.traits.Sink as sink
use Rattle.qz_node.specs.Jobs.{JobMeaning}
use Rattle.qz_words.specs.declared.wishes.WordFault.{WordFault}
use Rattle.qz_words.specs.declared.wishes.Wish.{Wish}
use Rattle.qz_top.specs.Asked.{DidAsAsked, UsesJobs}
use Rattle.qz_top.specs.Calls.{trail_of}
use Rattle.qz_top.specs.Causes.{FaultCounts, HasCause}
use Rattle.qz_top.specs.Completing.{IsComplete}
use Rattle.qz_top.specs.Schedules.{FollowSchedules}
use Rattle.qz_top.specs.HandingOn.{HandsOnWritten}
use Rattle.qz_top.specs.HeadlineByWords.{HeadlineOf}
use Rattle.qz_top.specs.Statuses.{Reported}
use Rattle.qz_top.specs.declared.ended.Ended.{Ended}

-- A call with these words, jobs and disks ended so, and changed the outside, the counts of faults, the output and the error output so.
pub record Promised {D K E : Type 0} {g : Ghosts D} (k : sink.Ghosts K) (x : sink.Ghosts E) (w : Result Wish WordFault) (jobs jobs' : List JobMeaning)
    (triggers states : D) (e : Ended D g) (old new : Outside) (counts counts' : FaultCounts) (out out' : K) (err err' : E) : Type 0 where
  pub done : DidAsAsked w jobs jobs' triggers states e old new
  pub headline : HeadlineOf w triggers states e old new
  pub uses : UsesJobs w jobs jobs'
  pub cause : HasCause e.status w counts counts'
  pub complete : IsComplete g w e.status counts counts' old.left triggers states
  pub schedules : FollowSchedules (trail_of e.trail)
  pub handed : HandsOnWritten k out out'
  pub reported : Reported x e.status err err'
