-- What is prepared is accepted.
use Rattle.std.proofs.Common.{◌≡◌, Result, Ok, Err, IfOk, OnOk, sym, subst}
use Rattle.qz_types.specs.Entries.{EntryData}
use Rattle.qz_types.specs.Tables.{SchedulerTables, recorded_moment}
use Rattle.qz_types.specs.Outcomes.{IsAccepted}
use Rattle.qz_model.specs.Transaction.{transaction}
use Rattle.qz_tables.specs.Contents.{TablesData}
use Rattle.qz_acquire.specs.Prepared.{committed as acquire_committed}
use Rattle.qz_acquire.specs.declared.changes.Change.{Change as AcquireChange}
use Rattle.qz_acquire.specs.declared.changes.Change.TheVariants as acquire
use Rattle.qz_complete.specs.Prepared.{committed as complete_committed}
use Rattle.qz_complete.specs.declared.changes.Change.{Change as CompleteChange}
use Rattle.qz_complete.specs.declared.changes.Change.TheVariants as complete
use Rattle.qz_plain.specs.Prepared.{Prepares}
use Rattle.qz_plain.specs.declared.prepared.Prepared.{Prepared}
use Rattle.qz_plain.specs.declared.prepared.Prepared.TheVariants.{Schedule, Recover, Acquire, Complete}

acquire_accepted : (D : TablesData) (e : EntryData) (change : AcquireChange) → IsAccepted (acquire_committed D.tables (recorded_moment D.tables e.at) change)
acquire_accepted D e (acquire.Acquire rows taken) = tt
acquire_accepted D e (acquire.Misfires moves rows) = tt
acquire_accepted D e (acquire.Release entry) = tt
acquire_accepted D e (acquire.Fire one) = tt

complete_accepted : (D : TablesData) (e : EntryData) (change : CompleteChange) → IsAccepted (complete_committed D.tables (recorded_moment D.tables e.at) change)
complete_accepted D e (complete.GoOn entry) = tt
complete_accepted D e (complete.End entry code) = tt

pub accepted : (D : TablesData) (e : EntryData) (prepared : Prepared) → Prepares D e prepared → IsAccepted (transaction D.tables e)
accepted D e (Schedule change) ready = ready.accepts
accepted D e (Recover change) ready = ready.accepted
accepted D e (Acquire change) ready = subst IsAccepted (sym ready.outcome) (acquire_accepted D e change)
accepted D e (Complete change) ready = subst IsAccepted (sym ready) (complete_accepted D e change)

-- also at the rows that were there before
pub accepted_before : {E : Type 0} (old new : TablesData) (e : EntryData) (answer : Result Prepared E) → new.tables ≡ old.tables → IfOk answer (Prepares new e) → OnOk answer (IsAccepted (transaction old.tables e))
accepted_before old new e (Ok prepared) same ready = subst (λ (T : SchedulerTables). IsAccepted (transaction T e)) same (accepted new e prepared ready)
accepted_before old new e (Err error) same ready = tt
