-- What a line of a script says, and which fault it has. Of several faults the first in the order TooLong, NotJson,
-- Shape, Cron is meant.
use Rattle.std.specs.Prelude.{◌≡◌, ℕ, ℤ, pos, List, length, Bool, false, ◌==◌, ◌||◌, nat_lt, if◌then◌else◌, Option, Some, None, Result, Ok, Err, codes}
use Rattle.std.specs.List.{list_all}
use Rattle.std.specs.Str.{is_utf8}
use Rattle.serde_json.specs.Data.{Data}
use Rattle.serde_json.specs.Read.{read}
use Rattle.qz_types.specs.declared.limits.TheConstants.{INTERVAL_LIMIT}
use Rattle.qz_steps.specs.declared.questions.Question.TheVariants as question
use Rattle.qz_steps.specs.declared.steps.Step.{Step}
use Rattle.qz_steps.specs.declared.steps.Step.TheVariants as step
use Rattle.qz_io.specs.declared.limits.TheConstants.{LINE_LIMIT}
use Rattle.qz_job_json.specs.declared.words.StepWord.{StepWord}
use Rattle.qz_job_json.specs.declared.words.StepWord.TheVariants.{Join, CheckIn, Forget, Stop, Restart}
use Rattle.qz_job_json.specs.declared.words.UntimedWord.{UntimedWord}
use Rattle.qz_job_json.specs.declared.words.UntimedWord.TheVariants.{ShowJob, ShowTrigger, ShowEntry, ShowNext, Resume, Checkpoint, ShowRoom}
use Rattle.qz_job_json.specs.declared.words.Word.{Word}
use Rattle.qz_job_json.specs.declared.words.Word.TheVariants.{Client, Node, Of, Untimed}
use Rattle.qz_job_json.specs.declared.forms.Form.TheVariants.{Line}
use Rattle.qz_job_json.specs.declared.lines.Given.{Given}
use Rattle.qz_job_json.specs.declared.faults.LineError.{LineError}
use Rattle.qz_job_json.specs.declared.faults.LineError.TheVariants as error
use Rattle.qz_job_json.specs.declared.faults.LineFault.{LineFault}
use Rattle.qz_job_json.specs.declared.faults.LineFault.TheVariants.{TooLong, NotJson}
use Rattle.qz_job_json.specs.Commands.{entry_at, client_command, node_command}
use Rattle.qz_job_json.specs.Faults.{◌>>=◌, or_shape}
use Rattle.qz_job_json.specs.Forms.{members_of}
use Rattle.qz_job_json.specs.Members.{has_only, text_at, number_at, node_at, integer_or, optional_integer_at}
use Rattle.qz_job_json.specs.Objects.{key_at}
use Rattle.qz_job_json.specs.Words.{word_of}

-- how often a node will check in, in ms
abbrev pub interval_at : Data → Option ℤ
interval_at d = integer_or (pos 1) INTERVAL_LIMIT (pos 15000) (codes "interval") d

-- a node, and a second member beside it
abbrev pub with_node : {A : Type 0} → Option A → (List ℕ → A → Step) → Data → Result Step LineFault
with_node other make d =
    or_shape (node_at (codes "node") d) >>= λ node.
    or_shape other >>= λ x.
    Ok (make node x)

unfoldable pub step_by_word : StepWord → Data → Result Step LineFault
step_by_word Join d = with_node (interval_at d) step.Join d
step_by_word CheckIn d = with_node (interval_at d) step.CheckIn d
step_by_word Forget d = with_node (node_at (codes "failed") d) step.Forget d
step_by_word Stop d = or_shape (node_at (codes "node") d) >>= λ node. Ok (step.Stop node)
step_by_word Restart d = Ok step.Restart

-- what takes no reading of the clock
unfoldable pub untimed_step : UntimedWord → Data → Result Step LineFault
untimed_step ShowJob d = or_shape (key_at (codes "group") (codes "name") d) >>= λ key. Ok (step.Show (question.Job key))
untimed_step ShowTrigger d = or_shape (key_at (codes "group") (codes "name") d) >>= λ key. Ok (step.Show (question.Trigger key))
untimed_step ShowEntry d = or_shape (entry_at d) >>= λ entry. Ok (step.Show (question.Entry entry))
untimed_step ShowNext d = Ok (step.Show question.Next)
untimed_step Resume d = with_node (number_at (codes "epoch") d) step.Resume d
untimed_step Checkpoint d = Ok step.Checkpoint
untimed_step ShowRoom d = Ok step.ShowRoom

-- the step of a line by its own members
unfoldable pub step_of : Word → Data → Result Step LineFault
step_of (Client what) d = client_command what d >>= λ command. Ok (step.Client command)
step_of (Node what) d =
    or_shape (node_at (codes "node") d) >>= λ node.
    node_command what d >>= λ command.
    Ok (step.Node node command)
step_of (Of what) d = step_by_word what d
step_of (Untimed what) d = untimed_step what d

-- the reading that a line gives in place of the clock's, if it gives one; 0 in a line that takes none
abbrev pub own_reading : Word → Data → Option (Option ℤ)
own_reading (Client what) d = optional_integer_at (codes "at") d
own_reading (Node what) d = optional_integer_at (codes "at") d
own_reading (Of what) d = optional_integer_at (codes "at") d
own_reading (Untimed what) d = Some (Some (pos 0))

-- the same, where each of its members is one that such a line has
abbrev pub reading_of : Word → Data → Option (Option ℤ)
reading_of word d = if has_only (members_of (Line word)) d then own_reading word d else None

abbrev pub make_given : Option ℤ → Step → Given
make_given at step = record { at = at; step = step }

-- the step with its reading
unfoldable pub given_of : Word → Data → Result Given LineFault
given_of word d =
    or_shape (reading_of word d) >>= λ at.
    step_of word d >>= λ step.
    Ok (make_given at step)

-- the line that a JSON value is, by the text of its member `do`
abbrev pub word_in : Data → Result Word LineFault
word_in d = or_shape (text_at (codes "do") d) >>= λ text. or_shape (word_of text)

-- what a JSON value says
abbrev pub meaning_of_value : Data → Result Given LineFault
meaning_of_value d = word_in d >>= λ word. given_of word d

-- the JSON value that the bytes are
abbrev pub value_of : List ℕ → Option Data
value_of line = if is_utf8 line then read line else None

-- a space, a tab or a carriage return
abbrev pub is_blank : ℕ → Bool
is_blank byte = byte == 32 || (byte == 9 || byte == 13)

abbrev pub or_not_json : Option Data → Result (Option Data) LineFault
or_not_json None = Err NotJson
or_not_json (Some d) = Ok (Some d)

-- the JSON value of a line, without its line feed; Ok None is a blank line
abbrev pub json_of : List ℕ → Result (Option Data) LineFault
json_of line =
    if nat_lt LINE_LIMIT (length line) then Err TooLong
    else if list_all is_blank line then Ok None
    else or_not_json (value_of line)

-- what a line says by its JSON value, if it has one
abbrev pub said_by : {A : Type 0} → (Data → Result A LineFault) → Option Data → Result (Option A) LineFault
said_by says None = Ok None
said_by says (Some d) = says d >>= λ x. Ok (Some x)

-- The line is neither too long nor blank, so its JSON value is read, which takes memory.
abbrev pub NeedsJson : List ℕ → Type 0
NeedsJson line = (nat_lt LINE_LIMIT (length line) ≡ false) × (list_all is_blank line ≡ false)

-- why there is no JSON value of a line
abbrev pub HasNoJson : LineError → List ℕ → Type 0
HasNoJson (error.Bad fault) line = json_of line ≡ Err fault
HasNoJson error.NoMemory line = NeedsJson line

-- What a reader of lines answers: what the line means, or its fault. Memory may run out while the JSON value of a
-- line is read, before anything is known of that value; after that only where the value has no fault.
abbrev pub ReadsLineAs : {A : Type 0} → Result A LineError → List ℕ → Result A LineFault → Type 0
ReadsLineAs (Ok x) line meaning = meaning ≡ Ok x
ReadsLineAs (Err (error.Bad fault)) line meaning = meaning ≡ Err fault
ReadsLineAs (Err error.NoMemory) line meaning = NeedsJson line

-- a line, without its line feed; Ok None is a blank line
abbrev pub meaning_of : List ℕ → Result (Option Given) LineFault
meaning_of line = json_of line >>= λ value. said_by meaning_of_value value
