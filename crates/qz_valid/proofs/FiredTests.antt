-- What the test of a fired row decides.
use Rattle.std.proofs.Common.{◌≡◌, ℕ, ◌<◌, ℤ, ◌≤ℤ◌, Bool, true, false, not, ◌||◌, List, Option, Some, None, IsSomeAnd, IfSome, is_none, nat_lt, refl, ap, subst}
use Rattle.std.specs.Bool.{Decides}
use Rattle.std.proofs.lemmas.Bool.Decides.{Decides-and, Decides-like, Decides-eqb, Decides-ltb, Decides-int_eq}
use Rattle.qz_types.specs.Rows.{JobData, TriggerData, MemberData, FiredData}
use Rattle.qz_types.specs.Tables.{SchedulerTables, IsMoment}
use Rattle.qz_types.specs.States.{is_acquired}
use Rattle.qz_types.specs.Words.{same_key, job_of, trigger_of, member_of}
use Rattle.qz_types.specs.declared.keys.Key.{Key}
use Rattle.qz_types.specs.declared.triggers.TriggerState.{TriggerState}
use Rattle.qz_types.specs.declared.triggers.TriggerState.TheVariants as state
use Rattle.qz_types.specs.declared.fired.FiredState.{FiredState}
use Rattle.qz_types.specs.declared.fired.FiredState.TheVariants as row
use Rattle.qz_model.specs.Invariant.{IsRowOf, HasTimes}
use Rattle.qz_model.proofs.RowLaws.{same_key_laws, same_key-exact}
use Rattle.qz_valid.specs.Fired.{has_epoch, owner_fits, is_acquired_state, is_time, is_for, acquired_fits, has_flag, is_since, executing_fits, fits_in_state, fired_fits}
use Rattle.qz_valid.specs.Keys.{has}
use Rattle.qz_valid.specs.Limits.{is_moment}
use Rattle.qz_valid.proofs.Deciding.{itself, int_le_decided, none_decided, alike_decided}
use Rattle.qz_valid.proofs.LimitTests.{moment_decided}

epoch_decided : (epoch : ℕ) (o : Option MemberData) → Decides (has_epoch epoch o) (IsSomeAnd o (λ m. m.epoch ≡ epoch))
epoch_decided epoch None = (λ h. absurd cc, λ i. absurd i)
epoch_decided epoch (Some m) = Decides-eqb m.epoch epoch

time_decided : (m : ℤ) (o : Option ℤ) → Decides (is_time m o) (o ≡ Some m)
time_decided m None = (λ h. absurd cc, λ e. absurd cc)
time_decided m (Some n) = (λ h. ap Some ((Decides-int_eq n m).0 h), λ e. let same : n ≡ m = cc in (Decides-int_eq n m).1 same)

acquired_state : (s : TriggerState) → is_acquired_state s ≡ true → s ≡ state.Acquired
acquired_state state.Waiting e = absurd cc
acquired_state state.Acquired e = refl
acquired_state state.Complete e = absurd cc
acquired_state state.Blocked e = absurd cc
acquired_state state.Paused e = absurd cc
acquired_state state.PausedBlocked e = absurd cc
acquired_state state.Error e = absurd cc

pub acquired_state_decided : (s : TriggerState) → Decides (is_acquired_state s) (s ≡ state.Acquired)
acquired_state_decided s = (acquired_state s, λ is. ap is_acquired_state is)

key_decided : (a b : Key) → Decides (same_key a b) (a ≡ b)
key_decided a b = (same_key-exact a b, λ e. subst (λ (k : Key). same_key a k ≡ true) e (same_key_laws.refl a))

-- the row of an acquired trigger is for it
for_decided : (f : FiredData) (o : Option TriggerData) → Decides (is_for f o) (IsSomeAnd o (IsRowOf f))
for_decided f None = (λ h. absurd cc, λ i. absurd i)
for_decided f (Some t) = Decides-like (is_for f (Some t))
    (λ p. record { state = p.0; job = p.1.0; next = p.1.1 })
    (λ (i : IsRowOf f t). (i.state, (i.job, i.next)))
    (Decides-and (is_acquired_state t.state) _ (acquired_state_decided t.state) (Decides-and (same_key t.spec.job f.job) _ (key_decided t.spec.job f.job) (time_decided f.scheduled t.next)))

pub flag_decided : (flag : Bool) (o : Option JobData) → Decides (has_flag flag o) (IfSome o (λ j. j.no_concurrent ≡ flag))
flag_decided flag None = (λ h. tt, λ i. refl)
flag_decided flag (Some j) = alike_decided j.no_concurrent flag

since_decided : (scheduled : ℤ) (o : Option ℤ) → Decides (is_since scheduled o) (IsSomeAnd o (λ m. scheduled ≤ℤ m))
since_decided scheduled None = (λ h. absurd cc, λ i. absurd i)
since_decided scheduled (Some m) = int_le_decided scheduled m

-- An executing row says what its job's other executions say, and what its job says.
pub record Agrees (jobs : List JobData) (exclusive : List Key) (f : FiredData) : Type 0 where
  pub job : has_flag f.no_concurrent (job_of f.job jobs) ≡ true
  pub alone : (f.no_concurrent || not (has f.job exclusive)) ≡ true

acquired_decided : (T : SchedulerTables) (f : FiredData) → Decides (acquired_fits T f) ((f.fired ≡ None) × IsSomeAnd (trigger_of f.trigger T.triggers) (IsRowOf f))
unfolding acquired_fits
acquired_decided T f = Decides-and (is_none f.fired) (is_for f (trigger_of f.trigger T.triggers)) (none_decided f.fired) (for_decided f (trigger_of f.trigger T.triggers))

-- what is said of an executing row
record Runs (T : SchedulerTables) (exclusive : List Key) (f : FiredData) : Type 0 where
  pub scheduled : IsMoment T.horizon f.scheduled
  pub began : IsSomeAnd f.fired (λ m. f.scheduled ≤ℤ m)
  pub agrees : Agrees T.jobs exclusive f

executing_decided : (T : SchedulerTables) (exclusive : List Key) (f : FiredData) → Decides (executing_fits T exclusive f) (Runs T exclusive f)
unfolding executing_fits
executing_decided T exclusive f = Decides-like (executing_fits T exclusive f)
    (λ p. record { scheduled = p.0; began = p.1.0; agrees = record { job = p.1.1.0; alone = p.1.1.1 } })
    (λ (r : Runs T exclusive f). (r.scheduled, (r.began, (r.agrees.job, r.agrees.alone))))
    (Decides-and (is_moment T.horizon f.scheduled) _ (moment_decided T.horizon f.scheduled)
    (Decides-and (is_since f.scheduled f.fired) _ (since_decided f.scheduled f.fired)
    (Decides-and (has_flag f.no_concurrent (job_of f.job T.jobs)) _ (itself _) (itself (f.no_concurrent || not (has f.job exclusive))))))

-- what is said of a row in its state
pub record StateFits (T : SchedulerTables) (exclusive : List Key) (f : FiredData) (s : FiredState) : Type 0 where
  pub times : HasTimes T.horizon f s
  pub trigger : is_acquired s ≡ true → IsSomeAnd (trigger_of f.trigger T.triggers) (IsRowOf f)
  pub agrees : is_acquired s ≡ false → Agrees T.jobs exclusive f

state_decided : (T : SchedulerTables) (exclusive : List Key) (f : FiredData) (s : FiredState) → Decides (fits_in_state T exclusive f s) (StateFits T exclusive f s)
state_decided T exclusive f row.Acquired = (
  λ h. let a = (acquired_decided T f).0 h in record { times = a.0; trigger = λ _. a.1; agrees = λ e. absurd (cc) },
  λ s. (acquired_decided T f).1 (s.times, s.trigger refl),
)
state_decided T exclusive f row.Executing = (
  λ h. let r = (executing_decided T exclusive f).0 h in record { times = (r.scheduled, r.began); trigger = λ e. absurd (cc); agrees = λ _. r.agrees },
  λ s. (executing_decided T exclusive f).1 (record { scheduled = s.times.0; began = s.times.1; agrees = s.agrees refl }),
)

owner_decided : (T : SchedulerTables) (f : FiredData) → Decides (owner_fits T f) ((f.entry < T.next_entry) × IsSomeAnd (member_of f.node T.members) (λ m. m.epoch ≡ f.epoch))
unfolding owner_fits
owner_decided T f = Decides-and (nat_lt f.entry T.next_entry) (has_epoch f.epoch (member_of f.node T.members)) (Decides-ltb f.entry T.next_entry) (epoch_decided f.epoch (member_of f.node T.members))

-- what is said of a fired row
pub record FiredFits (T : SchedulerTables) (exclusive : List Key) (f : FiredData) : Type 0 where
  pub entry : f.entry < T.next_entry
  pub member : IsSomeAnd (member_of f.node T.members) (λ m. m.epoch ≡ f.epoch)
  pub state : StateFits T exclusive f f.state

pub fired_decided : (T : SchedulerTables) (exclusive : List Key) (f : FiredData) → Decides (fired_fits T exclusive f) (FiredFits T exclusive f)
unfolding fired_fits
fired_decided T exclusive f = Decides-like (fired_fits T exclusive f)
    (λ p. record { entry = p.0.0; member = p.0.1; state = p.1 })
    (λ (r : FiredFits T exclusive f). ((r.entry, r.member), r.state))
    (Decides-and (owner_fits T f) (fits_in_state T exclusive f f.state) (owner_decided T f) (state_decided T exclusive f f.state))
