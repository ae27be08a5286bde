-- Each trigger of a legal history follows its schedule.
use Rattle.std.proofs.Common.{ℤ, List, ◌∷◌, ◌++◌, IsTrue, subst}
use Rattle.qz_types.specs.Rows.{TriggerData}
use Rattle.qz_types.specs.Entries.{EntryData, is_entry}
use Rattle.qz_types.specs.declared.keys.Key.{Key}
use Rattle.qz_types.specs.Tables.{SchedulerTables}
use Rattle.qz_plan.specs.FireTimes.{AreFireTimes}
use Rattle.qz_model.specs.History.{tables_left, IsLegalFrom, replay_from, replies_from}
use Rattle.qz_model.specs.Invariant.{TablesValid}
use Rattle.qz_model.specs.Plan.{zone_named_by, stretches_for, zoned_chain, next_after, first_time}
use Rattle.qz_model.specs.Transaction.{transaction}
use Rattle.qz_model.proofs.Histories.{valid-left, valid-replay}
use Rattle.qz_model.proofs.NextTimes.{horizon_of_valid}
use Rattle.qz_schedule_law.specs.Following.{IsLife, FollowsFrom}
use Rattle.qz_schedule_law.specs.Turns.{fired_times, IsPrefix}
use Rattle.qz_schedule_law.specs.Undisturbed.{IsStoredBy}
use Rattle.qz_schedule_law.proofs.Beginnings.{from_the_first}
use Rattle.qz_schedule_law.proofs.Histories.{AreValid, All-back, legal_back}
use Rattle.qz_schedule_law.proofs.Schedules.{fire_times_turn}
use Rattle.qz_schedule_law.proofs.Turns.{turns-left}

-- from the entry on that stored it, it fires for the first times of its schedule
pub first_times : (T : SchedulerTables) (e : EntryData) (es : List EntryData) (key : Key) (t u : TriggerData) (all : List ℤ) → IsStoredBy T e es key t u
    → AreFireTimes T.horizon t.spec.timing (stretches_for T.zones (zone_named_by t.spec.timing.kind)) (zoned_chain T t.spec.calendar) all → IsPrefix (fired_times key (replies_from T (e ∷ es))) all
first_times T e es key t u all by are =
    let first = from_the_first T e es key t u by in
    let left = turns-left (next_after T t.spec) (first_time T t.spec) (fired_times key (replies_from T (e ∷ es))) u.next all first.1 (fire_times_turn T t.spec all first.0 (horizon_of_valid T by.valid).high are) in
    (left.0, left.1)

-- The life of a trigger within legal entries.
stored_by : (T : SchedulerTables) (e : EntryData) (es after : List EntryData) (key : Key) (t u : TriggerData) → TablesValid T → AreValid (e ∷ (es ++ after)) → IsLegalFrom T (e ∷ (es ++ after)) → IsLife T e es key t u → IsStoredBy T e es key t u
stored_by T e es after key t u valid good legal life = record {
  valid = valid;
  entry = good.0;
  accepted = legal.0;
  stores = life.stores;
  stretch = record {
    valid = valid-left T e good.0 valid;
    entries = (All-back (λ x. IsTrue (is_entry x)) es after good.1).0;
    legal = (legal_back (tables_left T (transaction T e)) es after legal.1).0;
    begins = life.begins;
    ends = life.ends;
    goes_on = life.goes_on;
  };
}

pub follows : (T : SchedulerTables) (all : List EntryData) → TablesValid T → AreValid all → IsLegalFrom T all → FollowsFrom T all
follows T all valid good legal before e es after key t u times is life are =
    let entries = All-back (λ x. IsTrue (is_entry x)) before (e ∷ (es ++ after)) (subst AreValid is good) in
    let parts = legal_back T before (e ∷ (es ++ after)) (subst (IsLegalFrom T) is legal) in
    first_times (replay_from T before) e es key t u times
    (stored_by (replay_from T before) e es after key t u (valid-replay T before entries.0 valid parts.0) entries.1 parts.1 life) are
