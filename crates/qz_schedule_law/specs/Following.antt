-- Histories whose triggers follow their schedules.
use Rattle.std.specs.Prelude.{◌≡◌, ◌⊎◌, ℤ, List, ◌∷◌, ◌++◌, Some, None, true}
use Rattle.qz_types.specs.Rows.{TriggerData}
use Rattle.qz_types.specs.Entries.{EntryData}
use Rattle.qz_types.specs.declared.keys.Key.{Key}
use Rattle.qz_types.specs.Tables.{SchedulerTables}
use Rattle.qz_types.specs.Words.{trigger_of}
use Rattle.qz_plan.specs.FireTimes.{AreFireTimes}
use Rattle.qz_model.specs.History.{History, tables_left, replay_from, replies_from}
use Rattle.qz_model.specs.Plan.{zone_named_by, stretches_for, zoned_chain}
use Rattle.qz_model.specs.Transaction.{transaction}
use Rattle.qz_schedule_law.specs.Turns.{fired_times, IsPrefix}
use Rattle.qz_schedule_law.specs.Undisturbed.{is_replaced, GoesOn}

-- At these tables an entry stores the trigger of this key, as a new one or in place of another, and through the entries after it
-- nothing disturbs the trigger: it is t when it is stored, u at the end.
pub record IsLife (T : SchedulerTables) (e : EntryData) (es : List EntryData) (key : Key) (t u : TriggerData) : Type 0 where
  pub stores : (trigger_of key T.triggers ≡ None) ⊎ (is_replaced key e.command ≡ true)
  pub begins : trigger_of key (tables_left T (transaction T e)).triggers ≡ Some t
  pub ends : trigger_of key (replay_from T (e ∷ es)).triggers ≡ Some u
  pub goes_on : GoesOn key (tables_left T (transaction T e)) es

-- As long as nothing disturbs a trigger that one of these entries stored, it has fired for the first times of its schedule, up to the
-- horizon of the tables that it was stored in.
abbrev pub FollowsFrom : SchedulerTables → List EntryData → Type 0
FollowsFrom T all = (before : List EntryData) (e : EntryData) (es after : List EntryData) (key : Key) (t u : TriggerData) (times : List ℤ) → all ≡ before ++ (e ∷ (es ++ after))
    → IsLife (replay_from T before) e es key t u
    → AreFireTimes (replay_from T before).horizon t.spec.timing (stretches_for (replay_from T before).zones (zone_named_by t.spec.timing.kind)) (zoned_chain (replay_from T before) t.spec.calendar) times
    → IsPrefix (fired_times key (replies_from (replay_from T before) (e ∷ es))) times

-- each trigger of the history follows its schedule
abbrev pub FollowsSchedules : History → Type 0
FollowsSchedules h = FollowsFrom h.base h.entries
