-- Which triggers an Acquire takes, and the rows that it makes for them.
use Rattle.std.specs.Prelude.{◌≡◌, ⊤, ℕ, ◌+◌, ℤ, List, [], ◌∷◌, Bool, not, ◌&&◌, None}
use Rattle.std.specs.List.{list_any}
use Rattle.qz_types.specs.Changes.{in_state}
use Rattle.qz_types.specs.Rows.{JobData, TriggerData, MemberData, FiredData}
use Rattle.qz_types.specs.Tables.{SchedulerTables}
use Rattle.qz_types.specs.Words.{with_trigger, fired_of, put_fired}
use Rattle.qz_types.specs.declared.replies.Taken.{Taken}
use Rattle.qz_types.specs.declared.triggers.TriggerState.TheVariants as state
use Rattle.qz_model.specs.Acquiring.{is_sibling, acquired_row}
use Rattle.qz_model.specs.Tests.{stored_job}
use Rattle.qz_acquire.specs.Walk.{is_on_time}

-- one of these is of the trigger's job, whose executions exclude each other
abbrev pub has_sibling : List JobData → List TriggerData → TriggerData → Bool
has_sibling jobs taken t = list_any (λ u. is_sibling jobs u t) taken

-- after these the trigger is taken too; this is the earliest next time that isn't misfired
abbrev pub may_take : ℤ → ℤ → List JobData → List TriggerData → TriggerData → Bool
may_take earliest limit jobs taken t = is_on_time earliest limit t && not (has_sibling jobs taken t)

-- the rows of these, with the entry numbers from this one on
abbrev pub rows_from : SchedulerTables → MemberData → ℕ → List TriggerData → List FiredData
rows_from T me entry [] = []
rows_from T me entry (t ∷ ts) = acquired_row entry me t (stored_job t.spec.job T.jobs) ∷ rows_from T me (entry + 1) ts

-- the tables with this row, whose trigger is acquired
abbrev pub with_row : SchedulerTables → FiredData → SchedulerTables
with_row T f = record T {
  triggers = with_trigger f.trigger (in_state state.Acquired) T.triggers;
  fired = put_fired f T.fired;
  next_entry = T.next_entry + 1;
}

-- each row, in its turn, has a new entry number
abbrev pub AreNew : SchedulerTables → List FiredData → Type 0
AreNew T [] = ⊤
AreNew T (f ∷ fs) = (fired_of f.entry T.fired ≡ None) × AreNew (with_row T f) fs

-- what the reply lists of a row
abbrev pub taken_row : FiredData → Taken
taken_row f = record { entry = f.entry; trigger = f.trigger; next = f.scheduled }
