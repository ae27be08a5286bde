-- The lines of a script: the steps that they ask for, and the first line that is bad.
use Rattle.std.specs.Prelude.{⊤, ℕ, ◌+◌, ℤ, List, [], ◌∷◌, nat_lt, if◌then◌else◌, Option, Some, None, Result, Ok, Err}
use Rattle.qz_steps.specs.declared.steps.Step.{Step}
use Rattle.qz_cluster.specs.Script.{TimedStep}
use Rattle.qz_job_json.specs.declared.lines.Given.{Given}
use Rattle.qz_job_json.specs.declared.faults.LineFault.{LineFault}
use Rattle.qz_job_json.specs.declared.faults.LineFault.TheVariants as line_fault
use Rattle.qz_job_json.specs.Lines.{meaning_of}
use Rattle.qz_io.specs.declared.limits.TheConstants.{LINE_COUNT_LIMIT}
use Rattle.qz_top.specs.declared.statuses.BadKind.{BadKind}
use Rattle.qz_top.specs.declared.statuses.BadKind.TheVariants as bad
use Rattle.qz_top.specs.declared.statuses.Status.{Status}
use Rattle.qz_top.specs.declared.statuses.Status.TheVariants.{BadLine}

abbrev pub Meaning : Type 0
Meaning = Result (Option Given) LineFault

-- what a line means; proofs see this word closed
unfoldable pub line_meaning : List ℕ → Meaning
line_meaning line = meaning_of line

abbrev pub kind_of : LineFault → BadKind
kind_of line_fault.TooLong = bad.TooLong
kind_of line_fault.NotJson = bad.NotJson
kind_of line_fault.NotHere = bad.NotHere
kind_of line_fault.Shape = bad.Shape
kind_of (line_fault.Cron error) = bad.Cron error

-- it is blank, or it asks for a step
abbrev pub IsGoodMeaning : Meaning → Type 0
IsGoodMeaning (Ok given) = ⊤
IsGoodMeaning (Err fault) = ⊥

abbrev pub IsGood : List ℕ → Type 0
IsGood line = IsGoodMeaning (line_meaning line)

-- how many readings of the clock a line takes: one, where it asks for a step and has no reading of its own
abbrev pub readings_of_at : Option ℤ → ℕ
readings_of_at None = 1
readings_of_at (Some at) = 0

abbrev pub readings_of_meaning : Meaning → ℕ
readings_of_meaning (Err fault) = 0
readings_of_meaning (Ok None) = 0
readings_of_meaning (Ok (Some given)) = readings_of_at given.at

abbrev pub readings_of : List (List ℕ) → ℕ
readings_of [] = 0
readings_of (line ∷ lines) = readings_of_meaning (line_meaning line) + readings_of lines

-- a step at its own reading, or at the first of these readings of the clock; and then the steps at the others
abbrev pub timed : Option ℤ → Step → List ℤ → (List ℤ → List TimedStep) → List TimedStep
timed (Some at) step readings rest = record { step = step; at = at } ∷ rest readings
timed None step [] rest = []
timed None step (at ∷ readings) rest = record { step = step; at = at } ∷ rest readings

abbrev pub steps_by_meaning : Meaning → List ℤ → (List ℤ → List TimedStep) → List TimedStep
steps_by_meaning (Err fault) readings rest = []
steps_by_meaning (Ok None) readings rest = rest readings
steps_by_meaning (Ok (Some given)) readings rest = timed given.at given.step readings rest

-- The steps that good lines ask for, each at its own reading or, where it has none, at the next of these readings of
-- the clock.
abbrev pub steps_of : List (List ℕ) → List ℤ → List TimedStep
steps_of [] readings = []
steps_of (line ∷ lines) readings = steps_by_meaning (line_meaning line) readings (steps_of lines)

abbrev pub bad_by_meaning : Meaning → ℕ → Option Status → Option Status
bad_by_meaning (Ok given) number rest = rest
bad_by_meaning (Err fault) number rest = Some (BadLine number (kind_of fault))

-- the first bad one of the lines that begin with this number
abbrev pub first_bad_from : ℕ → List (List ℕ) → Option Status
first_bad_from number [] = None
first_bad_from number (line ∷ lines) =
    if nat_lt LINE_COUNT_LIMIT number
    then Some (BadLine number bad.TooManyLines)
    else bad_by_meaning (line_meaning line) number (first_bad_from (number + 1) lines)

-- the first bad line of an input
abbrev pub first_bad : List (List ℕ) → Option Status
first_bad lines = first_bad_from 1 lines
