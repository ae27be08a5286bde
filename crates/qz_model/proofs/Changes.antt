-- Changes of the tables: what each needs to keep them valid. Here are the cases of an outcome, and the moment.
use Rattle.std.proofs.Common.{◌≡◌, ℕ, ◌<◌, ◌≤◌, ℤ, Bool, true, false, List, Option, Some, None, IsSome, IfSome, IsSomeAnd, IsTrue, count_by, refl, sym, subst, arith, if◌then◌else◌}
use Rattle.std.specs.List.{AllByRecursion}
use Rattle.std.proofs.lemmas.Int.{ints, clamps}
use Rattle.qz_types.specs.Rows.{JobData, TriggerData, CalendarData, ZoneData, MemberData, FiredData}
use Rattle.qz_types.specs.declared.keys.Key.{Key}
use Rattle.qz_types.specs.declared.triggers.TriggerState.TheVariants as state
use Rattle.qz_types.specs.declared.replies.Reply.{Reply}
use Rattle.qz_types.specs.declared.replies.Refusal.{Refusal}
use Rattle.qz_types.specs.Tables.{SchedulerTables, IsMoment, recorded_moment}
use Rattle.qz_types.specs.Outcomes.{Outcome, accepted, unless}
use Rattle.qz_types.specs.Words.{job_of, trigger_of, calendar_of, member_of, fired_of}
use Rattle.qz_types.specs.States.{is_acquired, is_acquired_for}
use Rattle.qz_model.specs.Executions.{is_exclusive_of, is_busy}
use Rattle.qz_model.specs.Plan.{zone_named_by, is_known_zone}
use Rattle.qz_model.specs.Triggers.{is_reserved}
use Rattle.qz_model.specs.Invariant.{IsRowOf, HasFlag, is_blocked_or_done, is_blocked, is_live_state, EndsIn, IsNumbered, HasTimes, HaveNextTimes, TablesValid}
use Rattle.qz_model.proofs.RowLaws.{All-trigger_of}
use Rattle.qz_model.proofs.RowPoints.{All-weaker, All-both, any_from_counts}
use Rattle.qz_model.proofs.References.{references-moment}

-- an accepted outcome had no refusal
pub record Passes (x : Option Refusal) (o : Outcome) (T : SchedulerTables) (r : Reply) : Type 0 where
  pub clear : x ≡ None
  pub outcome : o ≡ accepted T r

pub passes : (x : Option Refusal) (o : Outcome) (T : SchedulerTables) (r : Reply) → unless x o ≡ accepted T r → Passes x o T r
passes None o T r e = record { clear = refl; outcome = e }
passes (Some x) o T r e = absurd (cc)

-- where a chain of tests refuses nothing, each test fails
pub clear3 : (a b c : Bool) (x y z : Refusal) → (if a then Some x else if b then Some y else if c then Some z else None) ≡ None → (a ≡ false) × (b ≡ false) × (c ≡ false)
clear3 true b c x y z e = absurd (cc)
clear3 false true c x y z e = absurd (cc)
clear3 false false true x y z e = absurd (cc)
clear3 false false false x y z e = (refl, refl, refl)

pub clear6 : (a b c d f g : Bool) (x y z u v w : Refusal)
    → (if a then Some x else if b then Some y else if c then Some z else if d then Some u else if f then Some v else if g then Some w else None) ≡ None
    → (a ≡ false) × (b ≡ false) × (c ≡ false) × (d ≡ false) × (f ≡ false) × (g ≡ false)
clear6 true b c d f g x y z u v w e = absurd (cc)
clear6 false true c d f g x y z u v w e = absurd (cc)
clear6 false false true d f g x y z u v w e = absurd (cc)
clear6 false false false d f g x y z u v w e = let rest = clear3 d f g u v w e in (refl, refl, refl, rest.0, rest.1, rest.2)

-- the recorded moment lies within the horizon
pub moment_within : (T : SchedulerTables) (at : ℤ) → IsMoment T.horizon T.last_moment → IsMoment T.horizon (recorded_moment T at)
moment_within T at is = record { low = omega (arith, ints, clamps); high = omega (arith, ints, clamps) }

-- What the points of the invariant say of one row.
abbrev pub HasJob : List JobData → TriggerData → Type 0
HasJob jobs t = IsSome (job_of t.spec.job jobs)

abbrev pub HasOneRow : List FiredData → TriggerData → Type 0
HasOneRow fired t = t.state ≡ state.Acquired → count_by (is_acquired_for t.spec.key) fired ≡ 1

abbrev pub HasItsTrigger : List TriggerData → FiredData → Type 0
HasItsTrigger triggers f = is_acquired f.state ≡ true → IsSomeAnd (trigger_of f.trigger triggers) (IsRowOf f)

abbrev pub HasNextTime : ℤ → TriggerData → Type 0
HasNextTime horizon t = (is_live_state t.state ≡ true → IsSome t.next) × IfSome t.next (IsMoment horizon)

abbrev pub HasRowTimes : ℤ → FiredData → Type 0
HasRowTimes horizon f = HasTimes horizon f f.state

-- what a trigger names besides its job is stored
abbrev pub HasCalendar : List CalendarData → TriggerData → Type 0
HasCalendar calendars t = IfSome t.spec.calendar (λ name. IsSome (calendar_of name calendars))

abbrev pub HasZone : List ZoneData → TriggerData → Type 0
HasZone zones t = IfSome (zone_named_by t.spec.timing.kind) (λ name. IsTrue (is_known_zone zones name))

-- an execution agrees with all others of its job
abbrev pub AgreesWithRows : List FiredData → FiredData → Type 0
AgreesWithRows fired f = is_acquired f.state ≡ false → AllByRecursion (HasFlag f.job f.no_concurrent) fired

abbrev pub AgreesWithJob : List FiredData → JobData → Type 0
AgreesWithJob fired j = AllByRecursion (HasFlag j.key j.no_concurrent) fired

-- its state fits what goes on of its job
abbrev pub StaysBlocked : List FiredData → TriggerData → Type 0
StaysBlocked fired t = is_busy t.spec.job fired ≡ true → is_blocked_or_done t.state ≡ true

abbrev pub IsBlockedBy : List FiredData → TriggerData → Type 0
IsBlockedBy fired t = is_blocked t.state ≡ true → is_busy t.spec.job fired ≡ true

abbrev pub HasMember : List MemberData → FiredData → Type 0
HasMember members f = IsSomeAnd (member_of f.node members) (λ m. m.epoch ≡ f.epoch)

-- the points that speak of fired rows, jobs and triggers together stay where the rows' counts and flags do
pub busy-same : (key : Key) (old new : List FiredData) → count_by (is_exclusive_of key) new ≡ count_by (is_exclusive_of key) old → is_busy key new ≡ is_busy key old
unfolding is_busy
busy-same key old new same = any_from_counts (is_exclusive_of key) new old same

-- a trigger that the scheduler added has a number of its own
abbrev pub HasNumber : SchedulerTables → TriggerData → Type 0
HasNumber T t = is_reserved t.spec.key.group ≡ true → (number : ℕ) × IsNumbered T t number

-- none but the trigger of this key is named by the number
abbrev pub SharesNone : Key → ℕ → TriggerData → Type 0
SharesNone key number u = is_reserved u.spec.key.group ≡ true → EndsIn u.spec.key.name number → u.spec.key ≡ key

-- the number stays its own where no row gets it, and no other trigger
pub HasNumber-kept : (T U : SchedulerTables) (t : TriggerData) → T.next_entry ≤ U.next_entry
    → ((n : ℕ) → n < T.next_entry → fired_of n T.fired ≡ None → fired_of n U.fired ≡ None)
    → ((n : ℕ) → AllByRecursion (SharesNone t.spec.key n) T.triggers → AllByRecursion (SharesNone t.spec.key n) U.triggers)
    → HasNumber T t → HasNumber U t
HasNumber-kept T U t later rows others has reserved =
    let own = has reserved in
    let was : IsNumbered T t own.0 = own.1 in
    (own.0, record { named = was.named; below = omega arith; no_row = rows own.0 was.below was.no_row; alone = others own.0 was.alone })

-- it is the number of whatever trigger has this key
pub HasNumber-alike : (T : SchedulerTables) (t u : TriggerData) → t.spec.key ≡ u.spec.key → HasNumber T t → HasNumber T u
HasNumber-alike T t u same has reserved =
    let own = has (subst (λ k. is_reserved k.group ≡ true) (sym same) reserved) in
    let was : IsNumbered T t own.0 = own.1 in (
      own.0,
      record {
        named = subst (λ k. EndsIn k.name own.0) same was.named;
        below = was.below;
        no_row = was.no_row;
        alone = subst (λ k. AllByRecursion (SharesNone k own.0) T.triggers) same was.alone;
      },
    )

-- Next times, of each trigger by itself.
pub each_next : (T : SchedulerTables) → TablesValid T → AllByRecursion (HasNextTime T.horizon) T.triggers
each_next T valid =
    All-both (λ t. is_live_state t.state ≡ true → IsSome t.next) (λ t. IfSome t.next (IsMoment T.horizon)) (HasNextTime T.horizon) T.triggers (λ t some within. (some, within))
    valid.next_times.next valid.next_times.within

pub have_next : (horizon last_moment : ℤ) (triggers : List TriggerData) → AllByRecursion (HasNextTime horizon) triggers → IsMoment horizon last_moment → HaveNextTimes horizon last_moment triggers
have_next horizon last_moment triggers each is = record {
  next = All-weaker (HasNextTime horizon) (λ t. is_live_state t.state ≡ true → IsSome t.next) triggers (λ t has. has.0) each;
  within = All-weaker (HasNextTime horizon) (λ t. IfSome t.next (IsMoment horizon)) triggers (λ t has. has.1) each;
  moment = is;
}

some_within : (P : ℤ → Type 0) (o : Option ℤ) → IsSome o → IfSome o P → IsSomeAnd o P
some_within P None is within = absurd (cc)
some_within P (Some n) is within = within

-- a trigger that may fire again has a next time from 0 to the horizon
pub live_next : (T : SchedulerTables) (k : Key) (t : TriggerData) → TablesValid T → trigger_of k T.triggers ≡ Some t → is_live_state t.state ≡ true → IsSomeAnd t.next (IsMoment T.horizon)
live_next T k t valid found live =
    let has : HasNextTime T.horizon t = All-trigger_of (HasNextTime T.horizon) k t T.triggers (each_next T valid) found in
    some_within (IsMoment T.horizon) t.next (has.0 live) has.1

-- the moment of the transaction
pub valid-moment : (T : SchedulerTables) (m : ℤ) → TablesValid T → IsMoment T.horizon m → TablesValid (record T { last_moment = m })
valid-moment T m valid is = record {
  references_and_limits = references-moment T valid.references_and_limits m;
  acquired_match = valid.acquired_match;
  concurrency_agrees = valid.concurrency_agrees;
  one_exclusive = valid.one_exclusive;
  blocked_are_busy = valid.blocked_are_busy;
  rows_of_members = valid.rows_of_members;
  next_times = record { next = valid.next_times.next; within = valid.next_times.within; moment = is };
  fresh = record {
    fired = valid.fresh.fired;
    added = All-weaker (HasNumber T) (HasNumber (record T { last_moment = m })) T.triggers
        (λ t has. HasNumber-kept T (record T { last_moment = m }) t (omega arith) (λ n below none. none) (λ n all. all) has) valid.fresh.added;
  };
  row_times = valid.row_times;
}
