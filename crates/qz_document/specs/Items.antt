-- What the items of a document's lists say: their commands and their faults.
use Rattle.std.specs.Prelude.{List, [], ◌∷◌, ◌++◌, Bool, true, false, not, ◌&&◌, if◌then◌else◌, Option, Some, None, Result, Ok, Err}
use Rattle.std.specs.List.{list_all}
use Rattle.serde_json.specs.Data.{Items, no_items, item}
use Rattle.qz_types.specs.declared.commands.Command.{Command}
use Rattle.qz_steps.specs.declared.steps.Step.TheVariants.{Client}
use Rattle.qz_steps.specs.Steps.{is_step}
use Rattle.qz_job_json.specs.declared.items.Item.{Item}
use Rattle.qz_job_json.specs.declared.faults.LineFault.{LineFault}
use Rattle.qz_job_json.specs.declared.faults.LineFault.TheVariants as fault
use Rattle.qz_job_json.specs.Items.{item_of}

-- Each is a valid command of a client.
abbrev pub are_valid : List Command → Bool
are_valid commands = list_all (λ command. is_step (Client command)) commands

abbrev pub is_shape : LineFault → Bool
is_shape fault.TooLong = false
is_shape fault.NotJson = false
is_shape fault.NotHere = false
is_shape fault.Shape = true
is_shape (fault.Cron e) = false

-- Of a fault and one behind it in the text, the first is answered, unless only the second is Shape.
abbrev pub before : LineFault → Option LineFault → Option LineFault
before a None = Some a
before a (Some b) = if is_shape b && not (is_shape a) then Some b else Some a

-- the same, where there may be none
abbrev pub earlier : Option LineFault → Option LineFault → Option LineFault
earlier None b = b
earlier (Some a) b = before a b

-- an item's command, or none
abbrev pub right_of : Result Command LineFault → List Command
right_of (Ok command) = command ∷ []
right_of (Err e) = []

-- an item's fault, or none
abbrev pub fault_of : Result Command LineFault → Option LineFault
fault_of (Ok command) = None
fault_of (Err e) = Some e

-- the commands of a list, in its order
abbrev pub commands_of : Item → Items → List Command
commands_of kind no_items = []
commands_of kind (item d ds) = right_of (item_of kind d) ++ commands_of kind ds

-- the fault of a list
abbrev pub fault_in : Item → Items → Option LineFault
fault_in kind no_items = None
fault_in kind (item d ds) = earlier (fault_of (item_of kind d)) (fault_in kind ds)
