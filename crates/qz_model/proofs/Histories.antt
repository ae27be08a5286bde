-- Histories that go on, and that they leave valid tables.
use Rattle.std.proofs.Common.{◌≡◌, List, [], ◌∷◌, ◌++◌, IsTrue, refl, ap, ◌∙◌}
use Rattle.std.specs.List.{AllByRecursion}
use Rattle.qz_types.specs.Entries.{EntryData, is_entry}
use Rattle.qz_types.specs.declared.replies.Reply.{Reply}
use Rattle.qz_types.specs.Tables.{SchedulerTables, new_tables, recorded_moment}
use Rattle.qz_types.specs.Outcomes.{Outcome, accepted, refused, IsAccepted}
use Rattle.qz_model.specs.Transaction.{transaction}
use Rattle.qz_model.specs.History.{new_history, history_of_version, tables_left, onto_replies, IsLegalFrom, replay_from, replies_from, moments_from}
use Rattle.qz_model.specs.Invariant.{TablesValid}
use Rattle.qz_model.proofs.Kept.{kept}

-- The history of a new store is that of the version that is written today.
pub new_history-is : new_history ≡ history_of_version 2
unfolding new_tables
new_history-is = refl

pub replay_from-append : (T : SchedulerTables) (es fs : List EntryData) → replay_from T (es ++ fs) ≡ replay_from (replay_from T es) fs
replay_from-append T [] fs = refl
replay_from-append T (e ∷ es) fs = replay_from-append (tables_left T (transaction T e)) es fs

pub IsLegalFrom-append : (T : SchedulerTables) (es fs : List EntryData) → IsLegalFrom T es → IsLegalFrom (replay_from T es) fs → IsLegalFrom T (es ++ fs)
IsLegalFrom-append T [] fs legal more = more
IsLegalFrom-append T (e ∷ es) fs legal more = (legal.0, IsLegalFrom-append (tables_left T (transaction T e)) es fs legal.1 more)

-- an accepted entry may follow
pub IsLegalFrom-entry : (T : SchedulerTables) (es : List EntryData) (e : EntryData) → IsLegalFrom T es → IsAccepted (transaction (replay_from T es) e) → IsLegalFrom T (es ++ e ∷ [])
IsLegalFrom-entry T es e legal now = IsLegalFrom-append T es (e ∷ []) legal (now, tt)

onto_replies-append : (o : Outcome) (rs ss : List Reply) → onto_replies o (rs ++ ss) ≡ onto_replies o rs ++ ss
onto_replies-append (accepted T r) rs ss = refl
onto_replies-append (refused x) rs ss = refl

pub replies_from-append : (T : SchedulerTables) (es fs : List EntryData) → replies_from T (es ++ fs) ≡ replies_from T es ++ replies_from (replay_from T es) fs
replies_from-append T [] fs = refl
replies_from-append T (e ∷ es) fs =
    ap (onto_replies (transaction T e)) (replies_from-append (tables_left T (transaction T e)) es fs) ∙ onto_replies-append (transaction T e) _ _

pub moments_from-append : (T : SchedulerTables) (es fs : List EntryData) → moments_from T (es ++ fs) ≡ moments_from T es ++ moments_from (replay_from T es) fs
moments_from-append T [] fs = refl
moments_from-append T (e ∷ es) fs = ap (λ ms. recorded_moment T e.at ∷ ms) (moments_from-append (tables_left T (transaction T e)) es fs)

left_valid : (T : SchedulerTables) (e : EntryData) (o : Outcome) → IsTrue (is_entry e) → TablesValid T → transaction T e ≡ o → TablesValid (tables_left T o)
left_valid T e (accepted T' r) good valid is = kept T T' e r good valid is
left_valid T e (refused x) good valid is = valid

-- An entry leaves valid tables, accepted or not.
pub valid-left : (T : SchedulerTables) (e : EntryData) → IsTrue (is_entry e) → TablesValid T → TablesValid (tables_left T (transaction T e))
valid-left T e good valid = left_valid T e (transaction T e) good valid refl

-- So does a history.
pub valid-replay : (T : SchedulerTables) (es : List EntryData) → AllByRecursion (λ e. IsTrue (is_entry e)) es → TablesValid T → IsLegalFrom T es → TablesValid (replay_from T es)
valid-replay T [] good valid legal = valid
valid-replay T (e ∷ es) good valid legal = valid-replay (tables_left T (transaction T e)) es good.1 (valid-left T e good.0 valid) legal.1
