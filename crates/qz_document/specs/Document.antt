-- What a document says, and which fault it has. Of several faults the first in the order TooLong, NotJson, Shape, Cron is
-- meant, and of several bad cron texts the first in the text.
use Rattle.std.specs.Prelude.{◌≡◌, ℕ, ℤ, pos, List, [], ◌∷◌, ◌++◌, length, Bool, false, ◌&&◌, nat_lt, if◌then◌else◌, is_some, Option, Some, None, Result, Ok, Err, codes, ⊤}
use Rattle.serde_json.specs.Data.{Data, Items, no_items}
use Rattle.serde_json.specs.Find.{get, as_array, as_object}
use Rattle.qz_types.specs.declared.commands.Command.{Command}
use Rattle.qz_types.specs.declared.commands.Command.TheVariants as command
use Rattle.qz_types.specs.declared.limits.TheConstants.{INTERVAL_LIMIT}
use Rattle.qz_input.specs.declared.limits.TheConstants.{DOCUMENT_LIMIT}
use Rattle.qz_job_json.specs.declared.items.Item.TheVariants.{Zone, Calendar, Job, Trigger}
use Rattle.qz_job_json.specs.declared.faults.LineError.{LineError}
use Rattle.qz_job_json.specs.declared.faults.LineError.TheVariants as error
use Rattle.qz_job_json.specs.declared.faults.LineFault.{LineFault}
use Rattle.qz_job_json.specs.declared.faults.LineFault.TheVariants.{TooLong, NotJson}
use Rattle.qz_job_json.specs.Faults.{◌>>=◌, or_shape}
use Rattle.qz_job_json.specs.Lines.{value_of}
use Rattle.qz_job_json.specs.Members.{has_only, said_or, said_if, integer_in, optional_integer_at}
use Rattle.qz_document.specs.declared.documents.Document.{Document}
use Rattle.qz_document.specs.Items.{before, earlier, commands_of, fault_in}
use Rattle.qz_document.specs.Order.{names_in_text, triggers_first}

-- all members that a document may have
abbrev pub document_members : List (List ℕ)
document_members =
    codes "at" ∷ codes "threshold" ∷ codes "zones" ∷ codes "calendars" ∷ codes "jobs" ∷ codes "triggers" ∷ []

-- an object that has no other member
abbrev pub is_document : Data → Bool
is_document d = is_some (as_object d) && has_only document_members d

-- the document's own reading, if it has one; None is no document
abbrev pub at_of : Data → Option (Option ℤ)
at_of d = if is_document d then optional_integer_at (codes "at") d else None

-- a threshold in ms, if there is one
abbrev pub threshold_of : Data → Option (Option ℤ)
threshold_of d = said_if (integer_in (pos 1) INTERVAL_LIMIT) (get (codes "threshold") d)

-- the items under this name, which are none where there is no such member
abbrev pub list_at : List ℕ → Data → Option Items
list_at name d = said_or no_items as_array (get name d)

abbrev pub threshold_commands : Option ℤ → List Command
threshold_commands None = []
threshold_commands (Some ms) = command.Threshold ms ∷ []

-- the commands of the four lists
abbrev pub list_commands : Items → Items → Items → Items → List Command
list_commands zones calendars jobs triggers =
    commands_of Zone zones ++ (commands_of Calendar calendars ++ (commands_of Job jobs ++ commands_of Trigger triggers))

-- the fault of the two lists that have cron texts: where both have one, it matters which list stands first in the text
abbrev pub in_text_order : Bool → Option LineFault → Option LineFault → Option LineFault
in_text_order triggers_come_first None triggers = triggers
in_text_order triggers_come_first (Some calendar) None = Some calendar
in_text_order triggers_come_first (Some calendar) (Some trigger) =
    if triggers_come_first then before trigger (Some calendar) else before calendar (Some trigger)

-- the fault of the four lists
abbrev pub list_fault : Bool → Items → Items → Items → Items → Option LineFault
list_fault triggers_come_first zones calendars jobs triggers =
    earlier (earlier (fault_in Zone zones) (fault_in Job jobs))
    (in_text_order triggers_come_first (fault_in Calendar calendars) (fault_in Trigger triggers))

abbrev pub unless : {A : Type 0} → Option LineFault → A → Result A LineFault
unless None x = Ok x
unless (Some e) x = Err e

abbrev pub make_document : Option ℤ → List Command → Document
make_document at commands = record { at = at; commands = commands }

-- what a JSON value says
unfoldable pub said_by_value : Bool → Data → Result Document LineFault
said_by_value triggers_come_first d =
    or_shape (at_of d) >>= λ at.
    or_shape (threshold_of d) >>= λ threshold.
    or_shape (list_at (codes "zones") d) >>= λ zones.
    or_shape (list_at (codes "calendars") d) >>= λ calendars.
    or_shape (list_at (codes "jobs") d) >>= λ jobs.
    or_shape (list_at (codes "triggers") d) >>= λ triggers.
    unless (list_fault triggers_come_first zones calendars jobs triggers)
    (make_document at (threshold_commands threshold ++ list_commands zones calendars jobs triggers))

-- What a reader of the JSON value answers. Memory may run out at any item.
abbrev pub ReadsValueAs : Result Document LineError → Result Document LineFault → Type 0
ReadsValueAs (Ok document) meaning = meaning ≡ Ok document
ReadsValueAs (Err (error.Bad fault)) meaning = meaning ≡ Err fault
ReadsValueAs (Err error.NoMemory) meaning = ⊤

abbrev pub or_not_json : Option Data → Result Data LineFault
or_not_json None = Err NotJson
or_not_json (Some d) = Ok d

-- what the bytes of a document say
abbrev pub document_meaning : List ℕ → Result Document LineFault
document_meaning bytes =
    if nat_lt DOCUMENT_LIMIT (length bytes) then Err TooLong
    else or_not_json (value_of bytes) >>= said_by_value (triggers_first (names_in_text bytes))

-- What the reader of documents answers: the meaning, or its fault. Memory may run out wherever a JSON value is read.
abbrev pub ReadsDocumentAs : Result Document LineError → List ℕ → Type 0
ReadsDocumentAs (Ok document) bytes = document_meaning bytes ≡ Ok document
ReadsDocumentAs (Err (error.Bad fault)) bytes = document_meaning bytes ≡ Err fault
ReadsDocumentAs (Err error.NoMemory) bytes = nat_lt DOCUMENT_LIMIT (length bytes) ≡ false
