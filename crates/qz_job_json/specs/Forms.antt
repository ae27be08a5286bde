-- The table of the format: which members each object has. An object is a line, named by the word of its member
-- `do`, or the job, the calendar or the trigger in one. What the members say is in `Commands` and in `Objects`,
-- `Calendars` and `Schedules`.
use Rattle.std.specs.Prelude.{ℕ, List, [], ◌∷◌, ◌++◌, if◌then◌else◌, Option, Some, None, codes}
use Rattle.qz_job_json.specs.Members.{is_text}
use Rattle.qz_job_json.specs.declared.words.ClientWord.{ClientWord}
use Rattle.qz_job_json.specs.declared.words.ClientWord.TheVariants.{AddJob, AddTrigger, AddCalendar, AddZone, OfKey, OfGroup, OfName, Threshold}
use Rattle.qz_job_json.specs.declared.words.NodeWord.{NodeWord}
use Rattle.qz_job_json.specs.declared.words.NodeWord.TheVariants.{Leave, Acquire, Release, Fire, Complete, Misfires, Recover}
use Rattle.qz_job_json.specs.declared.words.StepWord.{StepWord}
use Rattle.qz_job_json.specs.declared.words.StepWord.TheVariants.{Join, CheckIn, Forget, Stop, Restart}
use Rattle.qz_job_json.specs.declared.words.UntimedWord.{UntimedWord}
use Rattle.qz_job_json.specs.declared.words.UntimedWord.TheVariants.{ShowJob, ShowTrigger, ShowEntry, ShowNext, Resume, Checkpoint, ShowRoom}
use Rattle.qz_job_json.specs.declared.words.Word.{Word}
use Rattle.qz_job_json.specs.declared.words.Word.TheVariants as word
use Rattle.qz_job_json.specs.declared.forms.KindWord.{KindWord}
use Rattle.qz_job_json.specs.declared.forms.KindWord.TheVariants.{Simple, Cron, Interval, Daily}
use Rattle.qz_job_json.specs.declared.forms.CalendarWord.{CalendarWord}
use Rattle.qz_job_json.specs.declared.forms.CalendarWord.TheVariants as calendar
use Rattle.qz_job_json.specs.declared.forms.Form.{Form}
use Rattle.qz_job_json.specs.declared.forms.Form.TheVariants.{Line, Job, CalendarOf, TriggerOf}

-- the members of every line, and a reading in place of the clock's in each that takes one
abbrev pub line_shared : Word → List (List ℕ)
line_shared (word.Client what) = codes "do" ∷ codes "at" ∷ []
line_shared (word.Node what) = codes "do" ∷ codes "at" ∷ []
line_shared (word.Of what) = codes "do" ∷ codes "at" ∷ []
line_shared (word.Untimed what) = codes "do" ∷ []

-- the further ones of a client's line
abbrev pub client_own : ClientWord → List (List ℕ)
client_own AddJob = codes "job" ∷ codes "replace" ∷ []
client_own AddTrigger = codes "trigger" ∷ codes "replace" ∷ []
client_own AddCalendar = codes "calendar" ∷ codes "replace" ∷ []
client_own AddZone = codes "name" ∷ codes "stretches" ∷ codes "rule" ∷ []
client_own (OfKey what) = codes "name" ∷ codes "group" ∷ []
client_own (OfGroup what) = codes "group" ∷ []
client_own (OfName what) = codes "name" ∷ []
client_own Threshold = codes "ms" ∷ []

-- and of a node's
abbrev pub node_own : NodeWord → List (List ℕ)
node_own Leave = codes "node" ∷ []
node_own Acquire = codes "node" ∷ codes "no_later" ∷ codes "window" ∷ codes "max" ∷ []
node_own Release = codes "node" ∷ codes "entry" ∷ []
node_own Fire = codes "node" ∷ codes "entry" ∷ []
node_own Complete = codes "node" ∷ codes "entry" ∷ codes "code" ∷ []
node_own Misfires = codes "node" ∷ []
node_own Recover = codes "node" ∷ codes "failed" ∷ []

-- and of the others
abbrev pub step_own : StepWord → List (List ℕ)
step_own Join = codes "node" ∷ codes "interval" ∷ []
step_own CheckIn = codes "node" ∷ codes "interval" ∷ []
step_own Forget = codes "node" ∷ codes "failed" ∷ []
step_own Stop = codes "node" ∷ []
step_own Restart = []

-- and of those that take no reading of the clock
abbrev pub untimed_own : UntimedWord → List (List ℕ)
untimed_own ShowJob = codes "name" ∷ codes "group" ∷ []
untimed_own ShowTrigger = codes "name" ∷ codes "group" ∷ []
untimed_own ShowEntry = codes "entry" ∷ []
untimed_own ShowNext = []
untimed_own Resume = codes "node" ∷ codes "epoch" ∷ []
untimed_own Checkpoint = []
untimed_own ShowRoom = []

abbrev pub line_own : Word → List (List ℕ)
line_own (word.Client what) = client_own what
line_own (word.Node what) = node_own what
line_own (word.Of what) = step_own what
line_own (word.Untimed what) = untimed_own what

-- the members of a job
abbrev pub job_members : List (List ℕ)
job_members =
    codes "name" ∷ codes "group" ∷ codes "class" ∷ codes "durable" ∷ codes "no_concurrent"
    ∷ codes "requests_recovery" ∷ codes "data" ∷ []

-- the members of a trigger, of whichever kind
abbrev pub shared : List (List ℕ)
shared =
    codes "name" ∷ codes "group" ∷ codes "job" ∷ codes "job_group" ∷ codes "priority" ∷ codes "calendar"
    ∷ codes "misfire" ∷ codes "start" ∷ codes "end" ∷ codes "kind" ∷ []

-- those of one kind
abbrev pub own : KindWord → List (List ℕ)
own Simple = codes "interval" ∷ codes "count" ∷ []
own Cron = codes "cron" ∷ codes "zone" ∷ []
own Interval = codes "unit" ∷ codes "every" ∷ codes "zone" ∷ codes "preserveHourOfDay" ∷ codes "skipDayIfHourDoesNotExist" ∷ []
own Daily = codes "unit" ∷ codes "every" ∷ codes "from" ∷ codes "to" ∷ codes "days" ∷ codes "zone" ∷ []

-- the members of a calendar, of whichever kind
abbrev pub calendar_shared : List (List ℕ)
calendar_shared = codes "name" ∷ codes "base" ∷ codes "zone" ∷ codes "kind" ∷ []

-- those of one kind
abbrev pub calendar_own : CalendarWord → List (List ℕ)
calendar_own calendar.Annual = codes "days" ∷ []
calendar_own calendar.Holiday = codes "dates" ∷ []
calendar_own calendar.Weekly = codes "days" ∷ []
calendar_own calendar.Monthly = codes "days" ∷ []
calendar_own calendar.Daily = codes "from" ∷ codes "to" ∷ codes "inverted" ∷ []
calendar_own calendar.Cron = codes "cron" ∷ []

-- all members that an object may have
abbrev pub members_of : Form → List (List ℕ)
members_of (Line what) = line_shared what ++ line_own what
members_of Job = job_members
members_of (CalendarOf kind) = calendar_shared ++ calendar_own kind
members_of (TriggerOf kind) = shared ++ own kind

-- the kind that a text names
unfoldable pub kind_word_of : List ℕ → Option KindWord
kind_word_of text =
    if is_text text (codes "simple") then Some Simple
    else if is_text text (codes "cron") then Some Cron
    else if is_text text (codes "interval") then Some Interval
    else if is_text text (codes "daily") then Some Daily
    else None

-- the kind of calendars that a text names
unfoldable pub calendar_word_of : List ℕ → Option CalendarWord
calendar_word_of text =
    if is_text text (codes "annual") then Some calendar.Annual
    else if is_text text (codes "holiday") then Some calendar.Holiday
    else if is_text text (codes "weekly") then Some calendar.Weekly
    else if is_text text (codes "monthly") then Some calendar.Monthly
    else if is_text text (codes "daily") then Some calendar.Daily
    else if is_text text (codes "cron") then Some calendar.Cron
    else None
