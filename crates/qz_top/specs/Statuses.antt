-- The exit status of the program, and the text on standard error, for each status.
use Rattle.std.specs.Prelude.{◌≡◌, ◌⊎◌, ℕ, ◌+◌, Bool, true, false, List, [], ◌++◌, codes}
use Rattle.std.specs.Io.KnownBytes.{Appends}
use Rattle.qz_civil.specs.Causes.{Rose}
use Rattle.std.specs.Fmt.{decimal}
use Rattle.qz_cron_text.specs.Errors.{error_number}
use Rattle.qz_io.specs.declared.limits.TheConstants.{LINE_COUNT_LIMIT}
use Rattle.qz_io.specs.declared.handlers.LinesEnd.{LinesEnd}
use Rattle.qz_io.specs.declared.handlers.LinesEnd.TheVariants as lines
use Rattle.qz_io.specs.Outside.{Outside, IsHandedOn}
use Rattle.qz_io.specs.declared.traits.Sink as sink
use Rattle.qz_cluster.specs.declared.errors.StepEnd.{StepEnd}
use Rattle.qz_cluster.specs.declared.errors.StepEnd.TheVariants as step
use Rattle.qz_types.specs.declared.stores.Store.{Store}
use Rattle.qz_types.specs.declared.stores.Store.TheVariants.{Triggers, States}
use Rattle.qz_top.specs.declared.statuses.BadKind.{BadKind}
use Rattle.qz_top.specs.declared.statuses.BadKind.TheVariants.{TooLong, NotJson, Shape, Cron, TooManyLines, NotHere}
use Rattle.qz_top.specs.declared.statuses.Status.{Status}
use Rattle.qz_top.specs.declared.statuses.Status.TheVariants as status
use Rattle.qz_top.specs.declared.line_handler.LineEnd.{LineEnd}
use Rattle.qz_top.specs.declared.line_handler.LineEnd.TheVariants as ends

abbrev pub exit_number : Status → ℕ
exit_number status.Ok = 0
exit_number (status.BadWords fault) = 1
exit_number (status.BadLine line fault) = 2
exit_number status.ReadFault = 3
exit_number status.WriteFault = 4
exit_number status.DiskFault = 5
exit_number (status.NotAStore store) = 6
exit_number (status.Damaged store at) = 6
exit_number (status.JournalFull need room) = 7
exit_number (status.Budget firings) = 8
exit_number status.NoMemory = 9
exit_number status.Exists = 10
exit_number (status.TooMany count) = 11
exit_number status.OldStore = 12
exit_number (status.BadStream at) = 13
exit_number status.Fenced = 14

abbrev pub kind_text : BadKind → List ℕ
kind_text TooLong = codes "too long"
kind_text NotJson = codes "not JSON"
kind_text Shape = codes "not a step"
kind_text (Cron error) = codes "bad cron " ++ decimal (error_number error)
kind_text TooManyLines = codes "too many lines"
kind_text NotHere = codes "not here"

abbrev pub store_text : Store → List ℕ
store_text Triggers = codes "triggers"
store_text States = codes "states"

abbrev pub need_text : ℕ → List ℕ
need_text need = codes "qz: journal full need " ++ decimal need

abbrev pub room_text : ℕ → List ℕ
room_text room = codes " room " ++ decimal room ++ codes "\n"

-- one line, and nothing where all went well
abbrev pub error_text : Status → List ℕ
error_text status.Ok = []
error_text (status.BadWords fault) = codes "qz: bad words\n"
error_text (status.BadLine line fault) = codes "qz: line " ++ decimal line ++ codes ": " ++ kind_text fault ++ codes "\n"
error_text status.ReadFault = codes "qz: read fault\n"
error_text status.WriteFault = codes "qz: write fault\n"
error_text status.DiskFault = codes "qz: disk fault\n"
error_text (status.NotAStore store) = codes "qz: " ++ store_text store ++ codes " not a store\n"
error_text (status.Damaged store at) = codes "qz: " ++ store_text store ++ codes " damaged at " ++ decimal at ++ codes "\n"
error_text (status.JournalFull need room) = need_text need ++ room_text room
error_text (status.Budget firings) = codes "qz: budget " ++ decimal firings ++ codes " spent\n"
error_text status.NoMemory = codes "qz: no memory\n"
error_text status.Exists = codes "qz: store exists\n"
error_text (status.TooMany count) = codes "qz: too many " ++ decimal count ++ codes "\n"
error_text status.OldStore = codes "qz: old store\n"
error_text (status.BadStream at) = codes "qz: bad stream at " ++ decimal at ++ codes "\n"
error_text status.Fenced = codes "qz: fenced\n"

-- how a script ends whose next step was cut short so
abbrev pub cut_status : StepEnd → Status
cut_status (step.JournalFull need room) = status.JournalFull need room
cut_status (step.NotAStore store) = status.NotAStore store
cut_status (step.Damaged store at) = status.Damaged store at
cut_status step.NoMemory = status.NoMemory

-- how a script ends whose line of this number ended so
abbrev pub status_at : ℕ → LineEnd → Status
status_at number (ends.Bad kind) = status.BadLine number kind
status_at number ends.WriteFault = status.WriteFault
status_at number ends.Unanswered = status.NoMemory
status_at number ends.NoMemory = status.NoMemory
status_at number (ends.CutShort end) = cut_status end

-- how a script ends whose lines weren't handled to the end of the input
abbrev pub status_of : LinesEnd LineEnd → Status
status_of (lines.Refused number end) = status_at number end
status_of (lines.TooLong number) = status.BadLine number TooLong
status_of lines.TooMany = status.BadLine (LINE_COUNT_LIMIT + 1) TooManyLines
status_of lines.ReadFault = status.ReadFault
status_of lines.NoMemory = status.NoMemory

-- the text was written and handed on, or the output failed
abbrev pub WritesLine : {E : Type 0} → sink.Ghosts E → List ℕ → E → E → Type 0
WritesLine e text old new =
    (Appends (e.held old) (e.held new) text × IsHandedOn (e.held new) (e.handed new)) ⊎ Rose (e.faults old) (e.faults new)

-- The line of the status was written and handed on, or the output failed. Where all went well, nothing was done.
abbrev pub Reported : {E : Type 0} → sink.Ghosts E → Status → E → E → Type 0
Reported e status.Ok old new = new ≡ old
Reported e s old new = WritesLine e (error_text s) old new

-- nothing more was written, and all that the output holds was handed on
abbrev pub Flushed : Outside → Outside → Type 0
Flushed old new = Appends old.held new.held [] × IsHandedOn new.held new.handed

-- After the last line, and a checkpoint where one is due, the output was flushed, and the status says whether a store is closed; or the flush failed.
abbrev pub Finishes : Status → Bool → Outside → Outside → ℕ → ℕ → Type 0
Finishes status.Ok closed old new faults faults_now = (closed ≡ false) × Flushed old new
Finishes status.DiskFault closed old new faults faults_now = (closed ≡ true) × Flushed old new
Finishes status.WriteFault closed old new faults faults_now = Appends old.held new.held [] × Rose faults faults_now
-- there was no memory for a snapshot
Finishes status.NoMemory closed old new faults faults_now = Appends old.held new.held []
Finishes s closed old new faults faults_now = ⊥
