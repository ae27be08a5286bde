-- A job with `no_concurrent` has one execution at a time, in each history that begins with valid tables.
use Rattle.std.proofs.Common.{◌≡◌, ◌≤◌, List, [], ◌∷◌, ◌++◌, IsTrue, subst}
use Rattle.std.specs.List.{AllByRecursion, count_by}
use Rattle.qz_model.specs.Executions.{is_exclusive_of}
use Rattle.qz_model.specs.History.{replay_from, tables_left}
use Rattle.qz_model.specs.Invariant.{TablesValid}
use Rattle.qz_model.specs.Transaction.{transaction}
use Rattle.qz_model.proofs.Histories.{valid-left}
use Rattle.qz_types.specs.Entries.{EntryData, is_entry}
use Rattle.qz_types.specs.Tables.{SchedulerTables}
use Rattle.qz_types.specs.declared.keys.Key.{Key}

-- The tables after any of the first entries are valid.
valid_after_first : (T : SchedulerTables) (first rest : List EntryData) → AllByRecursion (λ e. IsTrue (is_entry e)) (first ++ rest) → TablesValid T → TablesValid (replay_from T first)
valid_after_first T [] rest proper valid = valid
valid_after_first T (e ∷ first) rest proper valid = valid_after_first (tables_left T (transaction T e)) first rest proper.1 (valid-left T e proper.0 valid)

pub one_at_a_time : (T : SchedulerTables) (es first rest : List EntryData) → AllByRecursion (λ e. IsTrue (is_entry e)) es → TablesValid T → es ≡ first ++ rest → (key : Key)
    → count_by (is_exclusive_of key) (replay_from T first).fired ≤ 1
one_at_a_time T es first rest proper valid is key =
    (valid_after_first T first rest (subst (AllByRecursion (λ e. IsTrue (is_entry e))) is proper) valid).one_exclusive.one key
