-- What a script run did, when it ended with a status.
use Rattle.std.specs.Prelude.{◌≡◌, ◌⊎◌, ⊤, ℕ, ◌+◌, ◌≤◌, ℤ, true, false, List, [], ◌++◌, length, Option, Some, None, Ok}
use Rattle.std.specs.List.{AllByRecursion}
use Rattle.std.specs.Io.KnownBytes.{Consumes, Appends, IsAtEnd}
use Rattle.qz_io.specs.Ahead.{BeginWith}
use Rattle.qz_io.specs.Clocks.{Tells}
use Rattle.qz_io.specs.Handlers.{IfKnown, IsNextLine}
use Rattle.qz_io.specs.Lines.{IsOneLine, lines_of, with_feeds}
use Rattle.qz_io.specs.Outside.{Outside, IsHandedOn}
use Rattle.qz_steps.specs.declared.steps.StepReply.{StepReply}
use Rattle.qz_cluster.specs.Steps.{ClusterState, is_closed}
use Rattle.qz_cluster.specs.declared.errors.StepEnd.{StepEnd}
use Rattle.qz_cluster.specs.declared.errors.StepEnd.TheVariants as ends
use Rattle.qz_job_json.specs.declared.lines.Given.{Given}
use Rattle.qz_top.specs.Lines.{line_meaning, IsGood, readings_of, steps_of, first_bad}
use Rattle.qz_top.specs.Resting.{RestsRun}
use Rattle.qz_top.specs.Trails.{texts, RunState, RanSteps}
use Rattle.qz_top.specs.LineOutcomes.{IsOwn, taken_reading, step_at, NothingDone, WasCut}
use Rattle.qz_top.specs.declared.statuses.BadKind.{BadKind}
use Rattle.qz_top.specs.declared.statuses.Status.{Status}
use Rattle.qz_top.specs.declared.statuses.Status.TheVariants as status

-- All lines were done, none is bad, and nothing is left.
pub record ReadAll (left_now : Option (List ℕ)) (lines : List (List ℕ)) (bytes : List ℕ) : Type 0 where
  pub all : lines_of bytes ≡ lines
  pub no_bad : first_bad (lines_of bytes) ≡ None
  pub ended : IsAtEnd left_now

-- The lines before the first bad one were done.
pub record ReadToBad (lines : List (List ℕ)) (line : ℕ) (kind : BadKind) (bytes : List ℕ) : Type 0 where
  pub begins : BeginWith lines (lines_of bytes)
  pub number : line ≡ length lines + 1
  pub bad : first_bad (lines_of bytes) ≡ Some (status.BadLine line kind)

-- Every line whose line feed was taken from the input was done.
pub record ReadToFault (left left_now : Option (List ℕ)) (lines : List (List ℕ)) : Type 0 where
  pub part : List ℕ
  pub taken : Consumes left left_now (with_feeds lines ++ part)
  pub no_feed : IsOneLine part

-- the lines are the first of the input
abbrev pub ReadFirst : Option (List ℕ) → List (List ℕ) → Type 0
ReadFirst left lines = IfKnown left (λ bytes. BeginWith lines (lines_of bytes))

-- Which lines of the input were done, by the status, where the input's bytes are known.
abbrev pub Reads : Status → Option (List ℕ) → Option (List ℕ) → List (List ℕ) → Type 0
Reads status.Ok left left_now lines = IfKnown left (ReadAll left_now lines)
Reads (status.BadWords fault) left left_now lines = ⊥
Reads (status.BadLine line kind) left left_now lines = IfKnown left (ReadToBad lines line kind)
Reads status.ReadFault left left_now lines = ReadToFault left left_now lines
Reads status.WriteFault left left_now lines = ReadFirst left lines
Reads status.DiskFault left left_now lines = IfKnown left (ReadAll left_now lines)
Reads (status.NotAStore store) left left_now lines = ReadFirst left lines
Reads (status.Damaged store at) left left_now lines = ReadFirst left lines
Reads (status.JournalFull need room) left left_now lines = ReadFirst left lines
Reads status.NoMemory left left_now lines = ReadFirst left lines
Reads status.Exists left left_now lines = ⊥
Reads (status.Budget firings) left left_now lines = ⊥
Reads (status.TooMany count) left left_now lines = ⊥
Reads status.Fenced left left_now lines = ⊥
Reads status.OldStore left left_now lines = ⊥
Reads (status.BadStream at) left left_now lines = ⊥

-- The line after those that were done asks for a step that was cut short. The step was tried at its own reading, or else
-- at the one reading that was taken of the clock after those of these lines.
pub record EndsShort (honest : Type 0) (end : StepEnd) (left : Option (List ℕ)) (lines : List (List ℕ)) (more : List ℤ)
    (last after : RunState) : Type 0 where
  pub line : List ℕ
  pub next : IfKnown left (IsNextLine lines line)
  pub given : Given
  pub meaning : line_meaning line ≡ Ok (Some given)
  pub at : ℤ
  pub own : IsOwn given.at at
  pub read : more ≡ taken_reading given.at at
  pub cut : WasCut honest (step_at given at) end last after

-- What the end of a run left of the state after its last reply, by the status: that state, or what the checkpoint at the end made
-- of it; or, where the next line's step was cut short, what that left.
abbrev pub EndsRun : Type 0 → Status → Option (List ℕ) → List (List ℕ) → List ℤ → RunState → RunState → Type 0
EndsRun honest (status.NotAStore store) left lines more last after = EndsShort honest (ends.NotAStore store) left lines more last after
EndsRun honest (status.Damaged store at) left lines more last after = EndsShort honest (ends.Damaged store at) left lines more last after
EndsRun honest (status.JournalFull need room) left lines more last after = EndsShort honest (ends.JournalFull need room) left lines more last after
EndsRun honest status.NoMemory left lines more last after = NothingDone last after ⊎ EndsShort honest ends.NoMemory left lines more last after
EndsRun honest status.Ok left lines more last after = RestsRun status.Ok last after
EndsRun honest status.DiskFault left lines more last after = RestsRun status.DiskFault last after
EndsRun honest status.WriteFault left lines more last after = RestsRun status.WriteFault last after
EndsRun honest s left lines more last after = after ≡ last

-- At the end the status says whether a store is closed.
abbrev pub TellsClosed : Status → ClusterState → Type 0
TellsClosed status.Ok S = is_closed S ≡ false
TellsClosed status.DiskFault S = is_closed S ≡ true
TellsClosed s S = ⊤

-- All replies were written except the last one, of which a part was written, none of it or all of it.
pub record WrotePart (old new : Option (List ℕ)) (replies : List StepReply) : Type 0 where
  pub kept : List StepReply
  pub last : List StepReply
  pub cut : replies ≡ kept ++ last
  pub one : length last ≤ 1
  pub part : List ℕ
  pub rest : List ℕ
  pub text : texts last ≡ part ++ rest
  pub written : Appends old new (texts kept ++ part)

-- What was written, by the status: the replies, where nothing kept a reply from being written.
abbrev pub Writes : Status → Option (List ℕ) → Option (List ℕ) → List StepReply → Type 0
Writes status.WriteFault old new replies = WrotePart old new replies
Writes status.NoMemory old new replies = WrotePart old new replies
Writes s old new replies = Appends old new (texts replies)

-- Where all lines were done and answered, all that the output holds was handed on.
abbrev pub HandsOn : Status → Outside → Type 0
HandsOn status.Ok o = IsHandedOn o.held o.handed
HandsOn status.DiskFault o = IsHandedOn o.held o.handed
HandsOn s o = ⊤

-- it may have ended at a step that isn't among those that were done
abbrev pub IsShort : Status → Type 0
IsShort status.NoMemory = ⊤
IsShort (status.JournalFull need room) = ⊤
IsShort (status.NotAStore store) = ⊤
IsShort (status.Damaged store at) = ⊤
IsShort s = ⊥

-- Which readings of the clock were taken: one for each step without a reading of its own, and maybe one more for a
-- step that wasn't done.
pub record Clocked (s : Status) (old new : Option (List ℤ)) (lines : List (List ℕ)) (readings : List ℤ) : Type 0 where
  pub count : length readings ≡ readings_of lines
  pub more : List ℤ
  pub told : Tells old new (readings ++ more)
  pub none : (IsShort s → ⊥) → more ≡ []
  pub one : length more ≤ 1

-- how a run of lines may end
abbrev pub IsOfScript : Status → Type 0
IsOfScript (status.BadWords fault) = ⊥
IsOfScript status.Exists = ⊥
IsOfScript (status.Budget firings) = ⊥
IsOfScript (status.TooMany count) = ⊥
IsOfScript status.Fenced = ⊥
IsOfScript status.OldStore = ⊥
IsOfScript (status.BadStream at) = ⊥
IsOfScript s = ⊤

-- A run of these lines from the first state on, with these readings of the clock and these replies. The last state is
-- the one after the last reply. Whether the disks are honest matters to restarts.
pub record IsRun (honest : Type 0) (s : Status) (before after : RunState) (old new : Outside)
    (lines : List (List ℕ)) (readings : List ℤ) (replies : List StepReply) : Type 0 where
  pub called : IsOfScript s
  pub good : AllByRecursion IsGood lines
  pub last : RunState
  pub steps : RanSteps honest (steps_of lines readings) replies before last
  pub clocked : Clocked s old.readings new.readings lines readings
  pub end : EndsRun honest s old.left lines clocked.more last after
  pub closed : TellsClosed s after.cluster
  pub reads : Reads s old.left new.left lines
  pub writes : Writes s old.held new.held replies
  pub hands_on : HandsOn s new
