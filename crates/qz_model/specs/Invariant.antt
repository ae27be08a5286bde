-- What holds of the tables after every transaction.
use Rattle.std.specs.Prelude.{◌≡◌, ◌⊎◌, ℕ, ◌<◌, ◌≤◌, ℤ, ◌≤ℤ◌, List, ◌∷◌, ◌++◌, length, Bool, true, false, Some, None, IsTrue, IsSome, IfSome}
use Rattle.std.specs.Option.{IsSomeAnd}
use Rattle.std.specs.List.{AllByRecursion, count_by}
use Rattle.std.specs.Fmt.{decimal}
use Rattle.std.specs.Ordering.{nat_cmp}
use Rattle.qz_civil.specs.Timings.{is_name}
use Rattle.qz_civil.specs.declared.limits.TheConstants.{LAST, VERSION_ONE_LAST}
use Rattle.qz_types.specs.Sorted.{IsAscending}
use Rattle.qz_types.specs.Rows.{JobData, TriggerData, CalendarData, ZoneData, MemberData, FiredData, is_interval}
use Rattle.qz_types.specs.declared.limits.TheConstants.{JOB_LIMIT, TRIGGER_LIMIT, CALENDAR_LIMIT, CHAIN_LIMIT, ZONE_LIMIT, GROUP_LIMIT, JOB_GROUP_LIMIT, MEMBER_LIMIT, FIRED_LIMIT, NUMBER_LIMIT}
use Rattle.qz_types.specs.declared.keys.Key.{Key}
use Rattle.qz_types.specs.declared.triggers.TriggerState.{TriggerState}
use Rattle.qz_types.specs.declared.triggers.TriggerState.TheVariants as state
use Rattle.qz_types.specs.declared.fired.FiredState.{FiredState}
use Rattle.qz_types.specs.declared.fired.FiredState.TheVariants as row
use Rattle.qz_types.specs.Tables.{SchedulerTables, IsMoment}
use Rattle.qz_types.specs.Words.{key_cmp, text_cmp, same_key, job_of, trigger_of, calendar_of, member_of, fired_of}
use Rattle.qz_types.specs.Chains.{ends_within}
use Rattle.qz_types.specs.States.{is_acquired, is_acquired_for}
use Rattle.qz_model.specs.Executions.{is_exclusive_of, is_busy}
use Rattle.qz_model.specs.Plan.{zone_named_by, is_known_zone}
use Rattle.qz_model.specs.Triggers.{is_reserved}

-- 1. References and limits.

-- Each list is in the order of its ids, none of which comes twice.
pub record AreOrdered (T : SchedulerTables) : Type 0 where
  pub jobs : IsAscending key_cmp (λ r. r.key) T.jobs
  pub triggers : IsAscending key_cmp (λ r. r.spec.key) T.triggers
  pub calendars : IsAscending text_cmp (λ r. r.name) T.calendars
  pub zones : IsAscending text_cmp (λ r. r.name) T.zones
  pub paused_groups : IsAscending text_cmp (λ r. r) T.paused_groups
  pub paused_job_groups : IsAscending text_cmp (λ r. r) T.paused_job_groups
  pub members : IsAscending text_cmp (λ r. r.node) T.members
  pub fired : IsAscending nat_cmp (λ r. r.entry) T.fired

-- Whatever a row names is stored, and a chain of calendars is short and no circle.
pub record AreStored (jobs : List JobData) (triggers : List TriggerData) (calendars : List CalendarData) (zones : List ZoneData) : Type 0 where
  pub trigger_jobs : AllByRecursion (λ t. IsSome (job_of t.spec.job jobs)) triggers
  pub trigger_calendars : AllByRecursion (λ t. IfSome t.spec.calendar (λ name. IsSome (calendar_of name calendars))) triggers
  pub trigger_zones : AllByRecursion (λ t. IfSome (zone_named_by t.spec.timing.kind) (λ name. IsTrue (is_known_zone zones name))) triggers
  pub bases : AllByRecursion (λ c. IfSome c.base (λ name. IsSome (calendar_of name calendars))) calendars
  pub calendar_zones : AllByRecursion (λ c. IsTrue (is_known_zone zones c.zone)) calendars
  pub chains : AllByRecursion (λ c. IsTrue (ends_within calendars CHAIN_LIMIT (Some c))) calendars

-- how far the tables of one of the two format versions reach
abbrev pub IsHorizon : ℤ → Type 0
IsHorizon horizon = (horizon ≡ VERSION_ONE_LAST) ⊎ (horizon ≡ LAST)

-- each of these groups is a name of a length that a group may have
abbrev pub AreNames : List (List ℕ) → Type 0
AreNames groups = AllByRecursion (λ group. IsTrue (is_name group)) groups

-- No table, no number and no name of a paused group passes its limit.
pub record AreWithinLimits (T : SchedulerTables) : Type 0 where
  pub jobs : length T.jobs ≤ JOB_LIMIT
  pub triggers : length T.triggers ≤ TRIGGER_LIMIT
  pub calendars : length T.calendars ≤ CALENDAR_LIMIT
  pub zones : length T.zones ≤ ZONE_LIMIT
  pub paused_groups : length T.paused_groups ≤ GROUP_LIMIT
  pub paused_job_groups : length T.paused_job_groups ≤ JOB_GROUP_LIMIT
  pub members : length T.members ≤ MEMBER_LIMIT
  pub fired : length T.fired ≤ FIRED_LIMIT
  pub next_entry : T.next_entry ≤ NUMBER_LIMIT
  pub next_epoch : T.next_epoch ≤ NUMBER_LIMIT
  pub threshold : IsTrue (is_interval T.threshold)
  pub horizon : IsHorizon T.horizon
  pub group_names : AreNames T.paused_groups
  pub job_group_names : AreNames T.paused_job_groups

pub record ReferencesAndLimits (T : SchedulerTables) : Type 0 where
  pub ordered : AreOrdered T
  pub stored : AreStored T.jobs T.triggers T.calendars T.zones
  pub limits : AreWithinLimits T

-- 2. Acquired triggers match acquired rows.

-- the row is for this trigger, which is acquired
pub record IsRowOf (f : FiredData) (t : TriggerData) : Type 0 where
  pub state : t.state ≡ state.Acquired
  pub job : t.spec.job ≡ f.job
  pub next : t.next ≡ Some f.scheduled

-- Each acquired trigger has exactly one acquired row, and each acquired row is for such a trigger.
pub record AcquiredMatch (triggers : List TriggerData) (fired : List FiredData) : Type 0 where
  pub one_row : AllByRecursion (λ t. t.state ≡ state.Acquired → count_by (is_acquired_for t.spec.key) fired ≡ 1) triggers
  pub a_trigger : AllByRecursion (λ f. is_acquired f.state ≡ true → IsSomeAnd (trigger_of f.trigger triggers) (IsRowOf f)) fired

-- 3. Executing rows agree on concurrency.

-- an executing row of a job of this key has this flag
abbrev pub HasFlag : Key → Bool → FiredData → Type 0
HasFlag key flag f = is_acquired f.state ≡ false → same_key key f.job ≡ true → f.no_concurrent ≡ flag

-- All executing rows of one job key have one flag, which is the job's, if it is stored.
pub record ConcurrencyAgrees (jobs : List JobData) (fired : List FiredData) : Type 0 where
  pub with_rows : AllByRecursion (λ f. is_acquired f.state ≡ false → AllByRecursion (HasFlag f.job f.no_concurrent) fired) fired
  pub with_jobs : AllByRecursion (λ j. AllByRecursion (HasFlag j.key j.no_concurrent) fired) jobs

-- 4. At most one exclusive execution, siblings blocked.

-- it waits for an execution of its job to end, or fires no more
abbrev pub is_blocked_or_done : TriggerState → Bool
is_blocked_or_done state.Waiting = false
is_blocked_or_done state.Acquired = false
is_blocked_or_done state.Complete = true
is_blocked_or_done state.Blocked = true
is_blocked_or_done state.Paused = false
is_blocked_or_done state.PausedBlocked = true
is_blocked_or_done state.Error = true

-- A job key has at most one execution that excludes others, and none of its triggers can be acquired meanwhile.
pub record OneExclusive (triggers : List TriggerData) (fired : List FiredData) : Type 0 where
  pub one : (key : Key) → count_by (is_exclusive_of key) fired ≤ 1
  pub blocked : AllByRecursion (λ t. is_busy t.spec.job fired ≡ true → is_blocked_or_done t.state ≡ true) triggers

-- 5. Blocked triggers have an exclusive execution.

abbrev pub is_blocked : TriggerState → Bool
is_blocked state.Blocked = true
is_blocked state.PausedBlocked = true
is_blocked s = false

-- A trigger is blocked only while its job has an execution that excludes others.
pub record BlockedAreBusy (triggers : List TriggerData) (fired : List FiredData) : Type 0 where
  pub busy : AllByRecursion (λ t. is_blocked t.state ≡ true → is_busy t.spec.job fired ≡ true) triggers

-- 6. Rows belong to live members.

-- Members have epochs that were given, each its own, and each fired row is a member's, under its epoch.
pub record RowsOfMembers (members : List MemberData) (next_epoch : ℕ) (fired : List FiredData) : Type 0 where
  pub given : AllByRecursion (λ m. m.epoch < next_epoch) members
  pub distinct : AllByRecursion (λ m. AllByRecursion (λ n. n.epoch ≡ m.epoch → n ≡ m) members) members
  pub rows : AllByRecursion (λ f. IsSomeAnd (member_of f.node members) (λ m. m.epoch ≡ f.epoch)) fired

-- 7. Live triggers have a next time.

-- it may fire again
abbrev pub is_live_state : TriggerState → Bool
is_live_state state.Waiting = true
is_live_state state.Acquired = true
is_live_state state.Complete = false
is_live_state state.Blocked = true
is_live_state state.Paused = true
is_live_state state.PausedBlocked = true
is_live_state state.Error = false

-- Each trigger that may fire again has a next time, whatever next time a trigger has is from 0 to the horizon, and so is the last
-- moment.
pub record HaveNextTimes (horizon last_moment : ℤ) (triggers : List TriggerData) : Type 0 where
  pub next : AllByRecursion (λ t. is_live_state t.state ≡ true → IsSome t.next) triggers
  pub within : AllByRecursion (λ t. IfSome t.next (IsMoment horizon)) triggers
  pub moment : IsMoment horizon last_moment

-- 8. Entry numbers are fresh.

-- the name ends in an underscore and this number in decimal, without leading zeros
abbrev pub EndsIn : List ℕ → ℕ → Type 0
EndsIn name number = (front : List ℕ) × (name ≡ front ++ 95 ∷ decimal number)

-- A trigger that the scheduler added is named by an entry number that nothing else has.
pub record IsNumbered (T : SchedulerTables) (t : TriggerData) (number : ℕ) : Type 0 where
  pub named : EndsIn t.spec.key.name number
  pub below : number < T.next_entry
  pub no_row : fired_of number T.fired ≡ None
  pub alone : AllByRecursion
      (λ u. is_reserved u.spec.key.group ≡ true → EndsIn u.spec.key.name number → u.spec.key ≡ t.spec.key) T.triggers

-- The next entry number was never given.
pub record AreFresh (T : SchedulerTables) : Type 0 where
  pub fired : AllByRecursion (λ f. f.entry < T.next_entry) T.fired
  pub added : AllByRecursion (λ t. is_reserved t.spec.key.group ≡ true → (number : ℕ) × IsNumbered T t number) T.triggers

-- 9. Row moments are consistent.

-- an execution began at its scheduled time or later, and an acquired row hasn't begun
abbrev pub HasTimes : ℤ → FiredData → FiredState → Type 0
HasTimes horizon f row.Acquired = f.fired ≡ None
HasTimes horizon f row.Executing = IsMoment horizon f.scheduled × IsSomeAnd f.fired (λ m. f.scheduled ≤ℤ m)

-- The times of each row fit its state.
pub record HaveRowTimes (horizon : ℤ) (fired : List FiredData) : Type 0 where
  pub rows : AllByRecursion (λ f. HasTimes horizon f f.state) fired

-- The tables are valid.
pub record TablesValid (T : SchedulerTables) : Type 0 where
  pub references_and_limits : ReferencesAndLimits T
  pub acquired_match : AcquiredMatch T.triggers T.fired
  pub concurrency_agrees : ConcurrencyAgrees T.jobs T.fired
  pub one_exclusive : OneExclusive T.triggers T.fired
  pub blocked_are_busy : BlockedAreBusy T.triggers T.fired
  pub rows_of_members : RowsOfMembers T.members T.next_epoch T.fired
  pub next_times : HaveNextTimes T.horizon T.last_moment T.triggers
  pub fresh : AreFresh T
  pub row_times : HaveRowTimes T.horizon T.fired
