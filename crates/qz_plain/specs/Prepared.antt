-- What a transaction has ready before it changes the tables.
use Rattle.qz_types.specs.Entries.{EntryData}
use Rattle.qz_tables.specs.Contents.{TablesData}
use Rattle.qz_schedule.specs.Preparing.{Prepares as schedule_prepares}
use Rattle.qz_recover.specs.Prepared.{Prepares as recover_prepares}
use Rattle.qz_acquire.specs.Prepared.{Prepares as acquire_prepares}
use Rattle.qz_complete.specs.Prepared.{Prepares as complete_prepares}
use Rattle.qz_plain.specs.declared.prepared.Prepared.{Prepared}
use Rattle.qz_plain.specs.declared.prepared.Prepared.TheVariants.{Schedule, Recover, Acquire, Complete}

-- The entry's transaction is accepted at these tables, and all the memory that it needs is taken.
abbrev pub Prepares : TablesData → EntryData → Prepared → Type 0
Prepares D e (Schedule change) = schedule_prepares D e change
Prepares D e (Recover change) = recover_prepares D e change
Prepares D e (Acquire change) = acquire_prepares D e change
Prepares D e (Complete change) = complete_prepares D.tables e change
