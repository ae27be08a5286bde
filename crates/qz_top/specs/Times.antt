-- How a call of `times` ends.
use Rattle.std.specs.Prelude.{⊤, ◌≡◌, ◌+◌}
use Rattle.qz_io.specs.declared.limits.TheConstants.{LINE_COUNT_LIMIT}
use Rattle.qz_io.specs.Outside.{Outside}
use Rattle.qz_times.specs.declared.ends.TimesEnd.{TimesEnd}
use Rattle.qz_times.specs.declared.ends.TimesEnd.TheVariants as ends
use Rattle.qz_times.specs.declared.queries.Query.{Query}
use Rattle.qz_times.specs.Runs.{IsRun}
use Rattle.qz_top.specs.Lines.{kind_of}
use Rattle.qz_top.specs.declared.statuses.BadKind.TheVariants as bad
use Rattle.qz_top.specs.declared.statuses.Status.{Status}
use Rattle.qz_top.specs.declared.statuses.Status.TheVariants as status

abbrev pub status_of : TimesEnd → Status
status_of ends.Done = status.Ok
status_of (ends.Bad line fault) = status.BadLine line (kind_of fault)
status_of ends.TooManyLines = status.BadLine (LINE_COUNT_LIMIT + 1) bad.TooManyLines
status_of ends.ReadFault = status.ReadFault
status_of ends.WriteFault = status.WriteFault
status_of ends.NoMemory = status.NoMemory

-- the lines of the input were answered until it ended so
pub record TimesDone (s : Status) (q : Query) (old new : Outside) : Type 0 where
  pub end : TimesEnd
  pub status_is : s ≡ status_of end
  pub run : IsRun end q old new

-- how a call of `times` may end
abbrev pub IsOfTimes : Status → Type 0
IsOfTimes status.Ok = ⊤
IsOfTimes (status.BadLine line fault) = ⊤
IsOfTimes status.ReadFault = ⊤
IsOfTimes status.WriteFault = ⊤
IsOfTimes status.NoMemory = ⊤
IsOfTimes s = ⊥
