-- The words of lines: what the member `do` may be.
use Rattle.std.specs.Prelude.{ℕ, List, if◌then◌else◌, Option, Some, None, option_map, codes}
use Rattle.qz_types.specs.declared.commands.Code.{Code}
use Rattle.qz_types.specs.declared.commands.Code.TheVariants as code
use Rattle.qz_job_json.specs.Members.{is_text}
use Rattle.qz_job_json.specs.declared.words.KeyWord.TheVariants.{DeleteJob, DeleteTrigger, PauseTrigger, ResumeTrigger, ResetTrigger, TriggerNow}
use Rattle.qz_job_json.specs.declared.words.GroupWord.TheVariants.{PauseGroup, ResumeGroup, PauseJobGroup, ResumeJobGroup}
use Rattle.qz_job_json.specs.declared.words.NameWord.TheVariants.{DeleteCalendar, DeleteZone}
use Rattle.qz_job_json.specs.declared.words.ClientWord.{ClientWord}
use Rattle.qz_job_json.specs.declared.words.ClientWord.TheVariants.{AddJob, AddTrigger, AddCalendar, AddZone, OfKey, OfGroup, OfName, Threshold}
use Rattle.qz_job_json.specs.declared.words.NodeWord.{NodeWord}
use Rattle.qz_job_json.specs.declared.words.NodeWord.TheVariants.{Leave, Acquire, Release, Fire, Complete, Misfires, Recover}
use Rattle.qz_job_json.specs.declared.words.StepWord.{StepWord}
use Rattle.qz_job_json.specs.declared.words.StepWord.TheVariants.{Join, CheckIn, Forget, Stop, Restart}
use Rattle.qz_job_json.specs.declared.words.UntimedWord.{UntimedWord}
use Rattle.qz_job_json.specs.declared.words.UntimedWord.TheVariants.{ShowJob, ShowTrigger, ShowEntry, ShowNext, Resume, Checkpoint, ShowRoom}
use Rattle.qz_job_json.specs.declared.words.Word.{Word}
use Rattle.qz_job_json.specs.declared.words.Word.TheVariants.{Client, Node, Of, Untimed}

-- what a client asks for
unfoldable pub client_word_of : List ℕ → Option ClientWord
client_word_of text =
    if is_text text (codes "add_job") then Some AddJob
    else if is_text text (codes "add_trigger") then Some AddTrigger
    else if is_text text (codes "add_calendar") then Some AddCalendar
    else if is_text text (codes "add_zone") then Some AddZone
    else if is_text text (codes "delete_job") then Some (OfKey DeleteJob)
    else if is_text text (codes "delete_trigger") then Some (OfKey DeleteTrigger)
    else if is_text text (codes "pause_trigger") then Some (OfKey PauseTrigger)
    else if is_text text (codes "resume_trigger") then Some (OfKey ResumeTrigger)
    else if is_text text (codes "reset_trigger") then Some (OfKey ResetTrigger)
    else if is_text text (codes "trigger_now") then Some (OfKey TriggerNow)
    else if is_text text (codes "pause_group") then Some (OfGroup PauseGroup)
    else if is_text text (codes "resume_group") then Some (OfGroup ResumeGroup)
    else if is_text text (codes "pause_job_group") then Some (OfGroup PauseJobGroup)
    else if is_text text (codes "resume_job_group") then Some (OfGroup ResumeJobGroup)
    else if is_text text (codes "delete_calendar") then Some (OfName DeleteCalendar)
    else if is_text text (codes "delete_zone") then Some (OfName DeleteZone)
    else if is_text text (codes "threshold") then Some Threshold
    else None

-- what a node does under its epoch
unfoldable pub node_word_of : List ℕ → Option NodeWord
node_word_of text =
    if is_text text (codes "leave") then Some Leave
    else if is_text text (codes "acquire") then Some Acquire
    else if is_text text (codes "release") then Some Release
    else if is_text text (codes "fire") then Some Fire
    else if is_text text (codes "complete") then Some Complete
    else if is_text text (codes "misfires") then Some Misfires
    else if is_text text (codes "recover") then Some Recover
    else None

-- what is no single transaction of the trigger store
unfoldable pub step_word_of : List ℕ → Option StepWord
step_word_of text =
    if is_text text (codes "join") then Some Join
    else if is_text text (codes "check_in") then Some CheckIn
    else if is_text text (codes "forget") then Some Forget
    else if is_text text (codes "stop") then Some Stop
    else if is_text text (codes "restart") then Some Restart
    else None

-- what takes no reading of the clock
unfoldable pub untimed_word_of : List ℕ → Option UntimedWord
untimed_word_of text =
    if is_text text (codes "show_job") then Some ShowJob
    else if is_text text (codes "show_trigger") then Some ShowTrigger
    else if is_text text (codes "show_entry") then Some ShowEntry
    else if is_text text (codes "show_next") then Some ShowNext
    else if is_text text (codes "resume") then Some Resume
    else if is_text text (codes "checkpoint") then Some Checkpoint
    else if is_text text (codes "show_room") then Some ShowRoom
    else None

-- the first that there is
abbrev pub word_by : Option ClientWord → Option NodeWord → Option StepWord → Option UntimedWord → Option Word
word_by (Some word) _ _ _ = Some (Client word)
word_by None (Some word) _ _ = Some (Node word)
word_by None None (Some word) _ = Some (Of word)
word_by None None None other = option_map Untimed other

-- the line that a text names
abbrev pub word_of : List ℕ → Option Word
word_of text = word_by (client_word_of text) (node_word_of text) (step_word_of text) (untimed_word_of text)

-- the code that a text names
unfoldable pub code_of : List ℕ → Option Code
code_of text =
    if is_text text (codes "NOOP") then Some code.Noop
    else if is_text text (codes "RE_EXECUTE_JOB") then Some code.ReExecuteJob
    else if is_text text (codes "SET_TRIGGER_COMPLETE") then Some code.SetTriggerComplete
    else if is_text text (codes "DELETE_TRIGGER") then Some code.DeleteTrigger
    else if is_text text (codes "SET_ALL_JOB_TRIGGERS_COMPLETE") then Some code.SetAllJobTriggersComplete
    else if is_text text (codes "SET_TRIGGER_ERROR") then Some code.SetTriggerError
    else if is_text text (codes "SET_ALL_JOB_TRIGGERS_ERROR") then Some code.SetAllJobTriggersError
    else None
