-- What is done to the rows of a member, one after the other.
use Rattle.std.specs.Prelude.{◌≡◌, ⊤, ℕ, Bool, not, ◌&&◌, List, [], ◌∷◌, filter, Option, Some, None, if◌then◌else◌}
use Rattle.std.specs.List.{list_any}
use Rattle.qz_types.specs.Rows.{JobData, TriggerData, FiredData}
use Rattle.qz_types.specs.declared.keys.Key.{Key}
use Rattle.qz_types.specs.declared.triggers.TriggerState.TheVariants.{Waiting}
use Rattle.qz_types.specs.Changes.{in_state}
use Rattle.qz_types.specs.States.{is_acquired}
use Rattle.qz_types.specs.Tables.{SchedulerTables}
use Rattle.qz_types.specs.Words.{same_key, trigger_of, with_trigger, put_trigger, without_fired}
use Rattle.qz_model.specs.Completing.{is_finished, with_unblocked}
use Rattle.qz_model.specs.Jobs.{is_orphan}

-- the triggers once the row is gone: its own waits again, if the row is acquired, and else those that it excluded are unblocked
abbrev pub freed_from : FiredData → List TriggerData → List TriggerData
freed_from f triggers = if is_acquired f.state then with_trigger f.trigger (in_state Waiting) triggers else with_unblocked f.no_concurrent f.job triggers

-- the tables without the row
abbrev pub with_row_ended : SchedulerTables → ℕ → Option FiredData → SchedulerTables
with_row_ended T entry None = record T { fired = without_fired entry T.fired }
with_row_ended T entry (Some f) = record T { fired = without_fired entry T.fired; triggers = freed_from f T.triggers }

-- each trigger, in its turn, has a new key
abbrev pub AreNew : List TriggerData → List TriggerData → Type 0
AreNew triggers [] = ⊤
AreNew triggers (t ∷ added) = (trigger_of t.spec.key triggers ≡ None) × AreNew (put_trigger t triggers) added

-- the trigger has one of the keys, and is finished
abbrev pub has_ended : List Key → List FiredData → TriggerData → Bool
has_ended keys fired t = list_any (same_key t.spec.key) keys && is_finished fired t

module _ (goes : TriggerData → Bool) where
  abbrev pub staying : List TriggerData → List TriggerData
  staying triggers = filter (λ t. not (goes t)) triggers

  -- a trigger of this job goes
  abbrev pub loses : List TriggerData → JobData → Bool
  loses triggers j = list_any (λ t. same_key j.key t.spec.job && goes t) triggers

  -- the tables without the triggers that go, and without the jobs that lose one and are orphans then
  unfoldable pub without_triggers : SchedulerTables → SchedulerTables
  without_triggers T = record T {
    triggers = staying T.triggers;
    jobs = filter (λ j. not (loses T.triggers j && is_orphan (staying T.triggers) j)) T.jobs;
  }
