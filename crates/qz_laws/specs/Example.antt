-- An example: of three executions of node a the first and the last ask for recovery, but the job of the last is deleted by
-- then. Node b recovers a, which joins again.
use Rattle.std.specs.Prelude.{ℕ, pos, List, [], ◌∷◌, Bool, true, false, codes, Some}
use Rattle.qz_types.specs.Rows.{JobData, FiredData}
use Rattle.qz_types.specs.Entries.{EntryData}
use Rattle.qz_types.specs.Tables.{SchedulerTables, empty}
use Rattle.qz_types.specs.declared.keys.Key.{Key}
use Rattle.qz_types.specs.declared.commands.Actor.TheVariants.{Client, Node}
use Rattle.qz_types.specs.declared.commands.Command.TheVariants.{Join, Recover}
use Rattle.qz_types.specs.declared.fired.FiredState.TheVariants.{Executing}

abbrev pub key_named : List ℕ → Key
key_named name = record { group = codes "G"; name = name }

-- a durable job, which asks for recovery or doesn't
abbrev pub job_that : Bool → List ℕ → JobData
job_that asks name = record { key = key_named name; class = codes "C"; durable = true; no_concurrent = false; requests_recovery = asks; payload = [] }

-- an execution of it on node a, by a trigger that is deleted
abbrev pub execution_of : ℕ → JobData → FiredData
execution_of number job = record {
  entry = number;
  node = codes "a";
  epoch = 1;
  trigger = key_named (codes "gone");
  job = job.key;
  priority = pos 5;
  state = Executing;
  scheduled = pos 2000;
  fired = Some (pos 3000);
  no_concurrent = job.no_concurrent;
  requests_recovery = job.requests_recovery;
}

abbrev pub example_tables : SchedulerTables
example_tables = record (empty 2) {
  jobs = job_that true (codes "asks") ∷ job_that false (codes "silent") ∷ [];
  members = record { node = codes "a"; epoch = 1 } ∷ record { node = codes "b"; epoch = 2 } ∷ [];
  fired =
      execution_of 3 (job_that true (codes "asks"))
      ∷ execution_of 4 (job_that false (codes "silent"))
      ∷ execution_of 5 (job_that true (codes "deleted"))
      ∷ [];
  next_entry = 6;
  next_epoch = 3;
  last_moment = pos 3000;
}

abbrev pub example_entries : List EntryData
example_entries =
    record { at = pos 20000; actor = Node (record { node = codes "b"; epoch = 2 }); seat = 0; command = Recover (codes "a") }
    ∷ record { at = pos 22000; actor = Client; seat = 0; command = Join (codes "a") }
    ∷ []
