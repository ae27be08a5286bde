-- What is prepared fits the tables that it is prepared for.
use Rattle.std.proofs.Common.{◌≡◌, Result, Ok, Err, IfOk, sym, subst}
use Rattle.qz_types.specs.Entries.{EntryData}
use Rattle.qz_types.specs.declared.errors.StepRefused.{StepRefused}
use Rattle.qz_types.specs.Tables.{SchedulerTables, recorded_moment}
use Rattle.qz_model.specs.Transaction.{transaction}
use Rattle.qz_tables.specs.Contents.{TablesData}
use Rattle.qz_acquire.specs.Prepared.{committed, CanCommit, Prepares}
use Rattle.qz_acquire.specs.declared.changes.Change.{Change}

-- also where they have more room than before
pub prepared : (old new : TablesData) (e : EntryData) (answer : Result Change StepRefused) → new.tables ≡ old.tables
    → IfOk answer (λ change. transaction old.tables e ≡ committed old.tables (recorded_moment old.tables e.at) change) → IfOk answer (CanCommit new) → IfOk answer (Prepares new e)
prepared old new e (Ok change) same outcome possible =
    record { outcome = subst (λ (T : SchedulerTables). transaction T e ≡ committed T (recorded_moment T e.at) change) (sym same) outcome; possible = possible }
prepared old new e (Err error) same outcome possible = tt
