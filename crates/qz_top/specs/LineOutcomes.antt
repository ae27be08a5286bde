-- What a script makes of a line of its input, and of several.
use Rattle.std.specs.Prelude.{⊤, ◌≡◌, ◌≤◌, ℕ, ℤ, false, List, [], ◌∷◌, length, take, Option, Some, None, Result, Ok, Err}
use Rattle.std.specs.List.{AllByRecursion}
use Rattle.std.specs.Io.KnownBytes.{Appends}
use Rattle.qz_io.specs.Clocks.{Tells}
use Rattle.qz_io.specs.Outside.{Outside}
use Rattle.qz_steps.specs.declared.steps.StepReply.{StepReply}
use Rattle.qz_cluster.specs.Script.{TimedStep}
use Rattle.qz_report.specs.Replies.{reply_text}
use Rattle.qz_cluster.specs.Steps.{IsCutShort}
use Rattle.qz_cluster.specs.declared.errors.StepEnd.{StepEnd}
use Rattle.qz_job_json.specs.declared.lines.Given.{Given}
use Rattle.qz_job_json.specs.declared.faults.LineError.{LineError}
use Rattle.qz_job_json.specs.declared.faults.LineError.TheVariants as line_error
use Rattle.qz_job_json.specs.declared.faults.LineFault.{LineFault}
use Rattle.qz_top.specs.Lines.{line_meaning, kind_of, IsGood, readings_of, steps_of}
use Rattle.qz_top.specs.Trails.{texts, RunState, RanSteps}
use Rattle.qz_top.specs.declared.statuses.BadKind.{BadKind}
use Rattle.qz_top.specs.declared.line_handler.LineEnd.{LineEnd}
use Rattle.qz_top.specs.declared.line_handler.LineEnd.TheVariants as ends

-- Good lines were done with these readings of the clock: their steps led from one state to the other, and the clock
-- told the readings.
pub record Did (honest : Type 0) (lines : List (List ℕ)) (readings : List ℤ) (before after : RunState) (old new : Outside) : Type 0 where
  pub good : AllByRecursion IsGood lines
  pub count : length readings ≡ readings_of lines
  pub told : Tells old.readings new.readings readings
  pub replies : List StepReply
  pub steps : RanSteps honest (steps_of lines readings) replies before after

-- Good lines were done and answered.
pub record Ran (honest : Type 0) (lines : List (List ℕ)) (readings : List ℤ)
    (before after : RunState) (old new : Outside) : Type 0 where
  pub did : Did honest lines readings before after old new
  pub written : Appends old.held new.held (texts did.replies)

-- the readings of the clock that a step took, of which this is the one that it was done at
abbrev pub taken_reading : Option ℤ → ℤ → List ℤ
taken_reading None at = at ∷ []
taken_reading (Some own) at = []

-- it was done at its own reading, if it has one
abbrev pub IsOwn : Option ℤ → ℤ → Type 0
IsOwn None at = ⊤
IsOwn (Some own) at = at ≡ own

abbrev pub step_at : Given → ℤ → TimedStep
step_at given at = record { step = given.step; at = at }

-- the step was done at this reading
pub record DidStep (honest : Type 0) (given : Given) (at : ℤ) (before after : RunState) (old new : Outside) : Type 0 where
  pub own : IsOwn given.at at
  pub told : Tells old.readings new.readings (taken_reading given.at at)
  pub reply : StepReply
  pub steps : RanSteps honest (step_at given at ∷ []) (reply ∷ []) before after

-- Nothing was done but, where the disks are the call's own, a step that they failed in. The history of triggers stays then, too.
pub record NothingDone (before after : RunState) : Type 0 where
  pub history : after.cluster.triggers.history ≡ before.cluster.triggers.history
  pub trail : after.trail ≡ before.trail
  pub own : after.is_own ≡ before.is_own
  pub stays : before.is_own ≡ false → after.cluster ≡ before.cluster

-- nothing was done and nothing written, and at most one reading was taken
pub record GaveUp (before after : RunState) (old new : Outside) : Type 0 where
  pub nothing : NothingDone before after
  pub readings : List ℤ
  pub one : length readings ≤ 1
  pub told : Tells old.readings new.readings readings
  pub kept : Appends old.held new.held []

-- the step was cut short, and the state that it left wasn't shown
pub record WasCut (honest : Type 0) (t : TimedStep) (end : StepEnd) (before after : RunState) : Type 0 where
  pub cut : IsCutShort honest t end before.cluster after.cluster
  pub trail : after.trail ≡ before.trail
  pub own : after.is_own ≡ before.is_own

-- the step was cut short at this reading, and nothing was written
pub record StepCut (honest : Type 0) (given : Given) (end : StepEnd)
    (before after : RunState) (old new : Outside) : Type 0 where
  pub at : ℤ
  pub own : IsOwn given.at at
  pub told : Tells old.readings new.readings (taken_reading given.at at)
  pub kept : Appends old.held new.held []
  pub cut : WasCut honest (step_at given at) end before after

-- what is left where a step has no answer
abbrev pub NotDone : Type 0 → LineEnd → TimedStep → RunState → RunState → Type 0
NotDone honest (ends.CutShort end) t before after = WasCut honest t end before after
NotDone honest ends.NoMemory t before after = NothingDone before after
NotDone honest (ends.Bad kind) t before after = ⊥
NotDone honest ends.WriteFault t before after = ⊥
NotDone honest ends.Unanswered t before after = ⊥

-- what is left where a step has no reply line: the step was done, or it wasn't
abbrev pub NotAnswered : Type 0 → LineEnd → TimedStep → RunState → RunState → Type 0
NotAnswered honest ends.Unanswered t before after = (reply : StepReply) × RanSteps honest (t ∷ []) (reply ∷ []) before after
NotAnswered honest (ends.CutShort end) t before after = WasCut honest t end before after
NotAnswered honest ends.NoMemory t before after = NothingDone before after
NotAnswered honest (ends.Bad kind) t before after = ⊥
NotAnswered honest ends.WriteFault t before after = ⊥

-- the step was done, and a part of its reply was written, none of it or all of it
pub record StepPart (honest : Type 0) (given : Given)
    (before after : RunState) (old new : Outside) : Type 0 where
  pub at : ℤ
  pub did : DidStep honest given at before after old new
  pub count : ℕ
  pub part : count ≤ length (reply_text did.reply)
  pub written : Appends old.held new.held (take count (reply_text did.reply))

-- what became of a step
abbrev pub StepDone : Type 0 → Result (Unit {0}) LineEnd → Given → RunState → RunState
    → Outside → Outside → Type 0
StepDone honest (Ok x) given before after old new =
    (at : ℤ) × (did : DidStep honest given at before after old new) × Appends old.held new.held (reply_text did.reply)
-- no step ends so
StepDone honest (Err (ends.Bad kind)) given before after old new = ⊥
-- it was done, and a part of its reply was written, maybe none of it
StepDone honest (Err ends.WriteFault) given before after old new = StepPart honest given before after old new
StepDone honest (Err ends.Unanswered) given before after old new = StepPart honest given before after old new
-- it wasn't done
StepDone honest (Err ends.NoMemory) given before after old new = GaveUp before after old new
StepDone honest (Err (ends.CutShort end)) given before after old new = StepCut honest given end before after old new

-- how a line ends a script that isn't read for this reason
abbrev pub line_end : LineError → LineEnd
line_end (line_error.Bad fault) = ends.Bad (kind_of fault)
line_end line_error.NoMemory = ends.NoMemory

-- a line is bad, of this kind
pub record IsBad (line : List ℕ) (kind : BadKind) : Type 0 where
  pub fault : LineFault
  pub meaning : line_meaning line ≡ Err fault
  pub kind_is : kind ≡ kind_of fault

-- nothing was done, written or asked of the clock
pub record Untouched (before after : RunState) (old new : Outside) : Type 0 where
  pub same : after ≡ before
  pub kept : Appends old.held new.held []
  pub told : Tells old.readings new.readings []

-- a good line was done, and a part of its reply was written, none of it or all of it
pub record RanPart (honest : Type 0) (line : List ℕ)
    (before after : RunState) (old new : Outside) : Type 0 where
  pub readings : List ℤ
  pub did : Did honest (line ∷ []) readings before after old new
  pub one : length did.replies ≤ 1
  pub count : ℕ
  pub part : count ≤ length (texts did.replies)
  pub written : Appends old.held new.held (take count (texts did.replies))

-- a line asks for a step that was cut short
pub record LineCut (honest : Type 0) (line : List ℕ) (end : StepEnd)
    (before after : RunState) (old new : Outside) : Type 0 where
  pub given : Given
  pub meaning : line_meaning line ≡ Ok (Some given)
  pub step : StepCut honest given end before after old new

-- what became of a line
abbrev pub LineDone : Type 0 → Result (Unit {0}) LineEnd → List ℕ → RunState → RunState
    → Outside → Outside → Type 0
LineDone honest (Ok x) line before after old new =
    (readings : List ℤ) × Ran honest (line ∷ []) readings before after old new
LineDone honest (Err (ends.Bad kind)) line before after old new = IsBad line kind × Untouched before after old new
-- it was done, and a part of its reply was written, maybe none of it
LineDone honest (Err ends.WriteFault) line before after old new = RanPart honest line before after old new
LineDone honest (Err ends.Unanswered) line before after old new = RanPart honest line before after old new
-- it wasn't done
LineDone honest (Err ends.NoMemory) line before after old new = GaveUp before after old new
LineDone honest (Err (ends.CutShort end)) line before after old new = LineCut honest line end before after old new
