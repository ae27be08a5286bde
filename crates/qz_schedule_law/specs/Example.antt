-- An example: a client stores a trigger that fires every 2 ms from 0 on, and node a fires it twice.
use Rattle.std.specs.Prelude.{pos, negsuc, List, [], ◌∷◌, ◌++◌, true, false, codes, None}
use Rattle.qz_civil.specs.declared.timings.Kind.TheVariants.{Simple}
use Rattle.qz_civil.specs.declared.timings.Timing.{Timing}
use Rattle.qz_types.specs.Rows.{MemberData}
use Rattle.qz_types.specs.Entries.{EntryData}
use Rattle.qz_types.specs.Tables.{SchedulerTables, empty}
use Rattle.qz_types.specs.declared.keys.Key.{Key}
use Rattle.qz_types.specs.declared.triggers.TriggerSpec.{TriggerSpec}
use Rattle.qz_types.specs.declared.commands.Actor.TheVariants.{Client, Node}
use Rattle.qz_types.specs.declared.commands.Code.TheVariants.{Noop}
use Rattle.qz_types.specs.declared.commands.Command.TheVariants.{AddTrigger, Acquire, Fire, Complete}

abbrev pub node_a : MemberData
node_a = record { node = codes "a"; epoch = 1 }

abbrev pub job_key : Key
job_key = record { group = codes "G"; name = codes "job" }

abbrev pub example_key : Key
example_key = record { group = codes "G"; name = codes "often" }

-- every 2 ms from 0 on, without end
abbrev pub every_2_ms : Timing
every_2_ms = record { kind = Simple (pos 2) (negsuc 0); misfire = pos 0; start = pos 0; end = None }

abbrev pub often : TriggerSpec
often = record { key = example_key; job = job_key; priority = pos 5; calendar = None; timing = every_2_ms }

-- a job, and a node that is a member
abbrev pub example_tables : SchedulerTables
example_tables = record (empty 2) {
  jobs = record { key = job_key; class = codes "C"; durable = true; no_concurrent = false; requests_recovery = false; payload = [] } ∷ [];
  members = node_a ∷ [];
  next_epoch = 2;
}

abbrev pub storing : EntryData
storing = record { at = pos 0; actor = Client; seat = 0; command = AddTrigger often false }

-- the node acquires the trigger, fires it late, and ends the execution
abbrev pub once : List EntryData
once =
    record { at = pos 0; actor = Node node_a; seat = 0; command = Acquire (pos 0) (pos 0) 1 }
    ∷ record { at = pos 1; actor = Node node_a; seat = 0; command = Fire 1 }
    ∷ record { at = pos 3; actor = Node node_a; seat = 0; command = Complete 1 Noop }
    ∷ []

-- then it acquires it and fires it again
abbrev pub again : List EntryData
again =
    record { at = pos 3; actor = Node node_a; seat = 0; command = Acquire (pos 3) (pos 0) 1 }
    ∷ record { at = pos 5; actor = Node node_a; seat = 0; command = Fire 2 }
    ∷ []

abbrev pub firings : List EntryData
firings = once ++ again
