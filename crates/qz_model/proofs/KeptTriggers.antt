-- The commands on triggers, and the threshold, keep the tables valid.
use Rattle.std.proofs.Common.{◌≡◌, ℕ, ◌+◌, ◌≤◌, ℤ, negsuc, Bool, true, false, not, ◌&&◌, List, length, nat_le, nat_lt, codes, Option, Some, None, IsSome, IfSome, IsTrue, is_some, is_none, refl, sym, subst, ◌∙◌, arith}
use Rattle.std.proofs.lemmas.Bool.{leb-false, ltb-false, not-false}
use Rattle.std.proofs.lemmas.Int.{ints}
use Rattle.qz_types.specs.Rows.{TriggerData, CalendarData, ZoneData, is_interval}
use Rattle.qz_types.specs.declared.keys.Key.{Key}
use Rattle.qz_types.specs.declared.limits.TheConstants.{TRIGGER_LIMIT, NUMBER_LIMIT}
use Rattle.qz_types.specs.declared.triggers.TriggerSpec.{TriggerSpec}
use Rattle.qz_types.specs.declared.triggers.TriggerState.TheVariants as state
use Rattle.qz_types.specs.declared.replies.Reply.{Reply}
use Rattle.qz_types.specs.Changes.{without_acquired}
use Rattle.qz_types.specs.States.{first_state}
use Rattle.qz_types.specs.Tables.{SchedulerTables, IsMoment}
use Rattle.qz_types.specs.Outcomes.{accepted}
use Rattle.qz_types.specs.Words.{same_text, job_of, trigger_of, put_trigger, without_trigger, calendar_of}
use Rattle.qz_model.specs.Executions.{is_busy}
use Rattle.qz_model.specs.Plan.{zone_named_by, is_known_zone, is_known_zone_name, is_known_calendar, first_time}
use Rattle.qz_model.specs.Tests.{is_row_of_trigger}
use Rattle.qz_model.specs.Triggers.{is_reserved, is_in_paused, new_state, new_trigger, naming_refusal, add_trigger_refusal, without_old_orphan, with_new_trigger, add_trigger, unknown_trigger, without_trigger_and_orphan, delete_trigger, manual_trigger, trigger_now_refusal, trigger_now, set_threshold}
use Rattle.qz_model.specs.Invariant.{is_blocked_or_done, is_blocked, EndsIn, TablesValid}
use Rattle.qz_model.proofs.RowLaws.{some_row_not_none, same_key-exact, trigger_of-key, All-trigger_of, trigger_of-without_own, length-without_trigger, length-without_stored_trigger}
use Rattle.qz_model.proofs.Changes.{passes, valid-moment}
use Rattle.qz_model.proofs.NextTimes.{next_after-moment}
use Rattle.qz_model.proofs.Refusals.{not_refused, no_first, both_room}
use Rattle.qz_model.proofs.Dropping.{busy-without_acquired, valid-without_trigger, valid-without_orphan_of, valid-without_trigger_and_orphan}
use Rattle.qz_model.proofs.Putting.{IsNew, IsFreeNumber, HasFreeNumber, unnumbered, valid-put_trigger, valid-next_entry, free-next_entry, valid-threshold}

-- AddTrigger.

known_calendar : (calendars : List CalendarData) (name : Option (List ℕ)) → is_known_calendar calendars name ≡ true → IfSome name (λ n. IsSome (calendar_of n calendars))
known_calendar calendars None known = tt
known_calendar calendars (Some name) known = known

known_zone : (zones : List ZoneData) (name : Option (List ℕ)) → is_known_zone_name zones name ≡ true → IfSome name (λ n. IsTrue (is_known_zone zones n))
known_zone zones None known = tt
known_zone zones (Some name) known = known

-- what a trigger names is stored, and its group is a client's
record NamesKnown (T : SchedulerTables) (s : TriggerSpec) : Type 0 where
  pub client : is_reserved s.key.group ≡ false
  pub job : is_none (job_of s.job T.jobs) ≡ false
  pub calendar : is_known_calendar T.calendars s.calendar ≡ true
  pub zone : is_known_zone_name T.zones (zone_named_by s.timing.kind) ≡ true

names_known : (T : SchedulerTables) (s : TriggerSpec) → naming_refusal T s ≡ None → NamesKnown T s
unfolding naming_refusal
names_known T s none =
    let reserved = not_refused (is_reserved s.key.group) _ _ none in
    let job = not_refused (is_none (job_of s.job T.jobs)) _ _ reserved.1 in
    let calendar = not_refused (not (is_known_calendar T.calendars s.calendar)) _ _ job.1 in
    let zone = not_refused (not (is_known_zone_name T.zones (zone_named_by s.timing.kind))) _ _ calendar.1 in
    record { client = reserved.0; job = job.0; calendar = not-false _ calendar.0; zone = not-false _ zone.0 }

-- the first state of a trigger fits what goes on of its job
pub first_free : (paused busy : Bool) → first_state paused busy ≡ state.Acquired → ⊥
first_free false false e = cc
first_free true false e = cc
first_free false true e = cc
first_free true true e = cc

pub first_stays : (paused busy : Bool) → busy ≡ true → is_blocked_or_done (first_state paused busy) ≡ true
first_stays paused false e = absurd (cc)
first_stays false true e = refl
first_stays true true e = refl

pub first_blocked : (paused busy : Bool) → is_blocked (first_state paused busy) ≡ true → busy ≡ true
first_blocked paused true e = refl
first_blocked false false e = absurd (cc)
first_blocked true false e = absurd (cc)

-- a first time lies within the horizon
first_within : (T : SchedulerTables) (s : TriggerSpec) → IfSome (first_time T s) (IsMoment T.horizon)
first_within T s = next_after-moment T s (negsuc 0) (omega (arith, ints))

valid-without_old_orphan : (T : SchedulerTables) (old : Option TriggerData) → TablesValid T → TablesValid (record T { jobs = without_old_orphan old T.triggers T.jobs })
valid-without_old_orphan T None valid = valid
valid-without_old_orphan T (Some old) valid = valid-without_orphan_of T old.spec.job valid

module _ (T : SchedulerTables) (m : ℤ) (s : TriggerSpec) (valid : TablesValid T) (is : IsMoment T.horizon m) where
  -- the tables without the trigger that is replaced
  abbrev cleared : SchedulerTables
  cleared = record T { triggers = without_trigger s.key T.triggers; fired = without_acquired (is_row_of_trigger s.key) T.fired; last_moment = m }

  valid-cleared : TablesValid cleared
  valid-cleared = valid-without_trigger (record T { last_moment = m }) s.key (valid-moment T m valid is)

  abbrev first_trigger : TriggerData
  first_trigger = new_trigger T s (first_time T s)

  is_new : NamesKnown T s → is_none (first_time T s) ≡ false → IsNew cleared first_trigger
  unfolding new_trigger new_state
  is_new named time =
      let busy = busy-without_acquired s.job (is_row_of_trigger s.key) T.fired in record {
        absent = trigger_of-without_own s.key T.triggers;
        job = some_row_not_none _ named.job;
        calendar = known_calendar T.calendars s.calendar named.calendar;
        zone = known_zone T.zones (zone_named_by s.timing.kind) named.zone;
        free = first_free (is_in_paused T s) (is_busy s.job T.fired);
        stays = λ goes_on. first_stays (is_in_paused T s) (is_busy s.job T.fired) (sym busy ∙ goes_on);
        blocked = λ waits. busy ∙ first_blocked (is_in_paused T s) (is_busy s.job T.fired) waits;
        next = (λ live. some_row_not_none (first_time T s) time, first_within T s);
      }

  valid-with_new_trigger : IsNew cleared first_trigger → is_reserved s.key.group ≡ false → length (without_trigger s.key T.triggers) + 1 ≤ TRIGGER_LIMIT → TablesValid (record (with_new_trigger T first_trigger) { last_moment = m })
  unfolding with_new_trigger new_trigger
  valid-with_new_trigger new client room =
      valid-without_old_orphan (record cleared { triggers = put_trigger first_trigger cleared.triggers }) (trigger_of s.key T.triggers)
      (valid-put_trigger cleared first_trigger valid-cleared new (unnumbered cleared first_trigger client) room)

pub kept-add_trigger : (T T' : SchedulerTables) (m : ℤ) (s : TriggerSpec) (replace : Bool) (r : Reply) → TablesValid T → IsMoment T.horizon m → add_trigger T m s replace ≡ accepted T' r → TablesValid T'
unfolding add_trigger_refusal
kept-add_trigger T T' m s replace r valid is e =
    let way = passes (add_trigger_refusal T s replace) _ T' r e in
    let names = no_first (naming_refusal T s) _ way.clear in
    let named = names_known T s names.0 in
    let stored = not_refused (is_some (trigger_of s.key T.triggers) && not replace) _ _ names.1 in
    let time = not_refused (is_none (first_time T s)) _ _ stored.1 in
    let full = not_refused (is_none (trigger_of s.key T.triggers) && nat_le TRIGGER_LIMIT (length T.triggers)) _ _ time.1 in
    let room : length (without_trigger s.key T.triggers) + 1 ≤ TRIGGER_LIMIT = both_room (trigger_of s.key T.triggers) TRIGGER_LIMIT (length T.triggers) (length (without_trigger s.key T.triggers)) full.0
    valid.references_and_limits.limits.triggers (length-without_trigger s.key T.triggers) (length-without_stored_trigger s.key T.triggers) in
    let new = is_new T m s valid is named time.0 in
    let same : accepted (record (with_new_trigger T (new_trigger T s (first_time T s))) { last_moment = m }) _ ≡ accepted T' r = way.outcome in
    subst TablesValid (cc) (valid-with_new_trigger T m s valid is new named.client room)

-- DeleteTrigger.

same_horizon : (T : SchedulerTables) (t : Option TriggerData) (m : ℤ) → IsMoment T.horizon m → IsMoment (without_trigger_and_orphan T t).horizon m
unfolding without_trigger_and_orphan
same_horizon T None m is = is
same_horizon T (Some t) m is = is

pub kept-delete_trigger : (T T' : SchedulerTables) (m : ℤ) (key : Key) (r : Reply) → TablesValid T → IsMoment T.horizon m → delete_trigger T m key ≡ accepted T' r → TablesValid T'
kept-delete_trigger T T' m key r valid is e =
    let way = passes (unknown_trigger (trigger_of key T.triggers)) _ T' r e in
    let left : SchedulerTables = without_trigger_and_orphan T (trigger_of key T.triggers) in
    let same : accepted (record left { last_moment = m }) _ ≡ accepted T' r = way.outcome in
    subst TablesValid (cc) (valid-moment left m (valid-without_trigger_and_orphan T (trigger_of key T.triggers) valid) (same_horizon T (trigger_of key T.triggers) m is))

-- TriggerNow.

manual_reserved : (m : ℤ) (entry : ℕ) (job : Key) → is_reserved (manual_trigger m entry job).key.group ≡ true
unfolding is_reserved manual_trigger same_text
manual_reserved m entry job = refl

manual_named : (m : ℤ) (entry : ℕ) (job : Key) → EndsIn (manual_trigger m entry job).key.name entry
unfolding manual_trigger
manual_named m entry job = (codes "now", refl)

no_trigger : (o : Option TriggerData) → ((t : TriggerData) → o ≡ Some t → ⊥) → o ≡ None
no_trigger None none = refl
no_trigger (Some t) none = absurd (none t refl)

-- no trigger is named by the next entry number
pub manual_absent : (T : SchedulerTables) (m : ℤ) (job : Key) → TablesValid T → T.next_entry + 1 ≤ NUMBER_LIMIT → trigger_of (manual_trigger m T.next_entry job).key T.triggers ≡ None
manual_absent T m job valid room =
    let key : Key = (manual_trigger m T.next_entry job).key in
    let free : IsFreeNumber (record T { next_entry = T.next_entry + 1 }) key.name T.next_entry = free-next_entry T key.name valid (manual_named m T.next_entry job) room in
    no_trigger (trigger_of key T.triggers) (λ t found.
    let same : key ≡ t.spec.key = same_key-exact key t.spec.key (trigger_of-key key t T.triggers found) in
    All-trigger_of (λ u. is_reserved u.spec.key.group ≡ true → EndsIn u.spec.key.name T.next_entry → ⊥) key t T.triggers free.unused found
    (subst (λ k. is_reserved k.group ≡ true) same (manual_reserved m T.next_entry job)) (subst (λ k. EndsIn k.name T.next_entry) same (manual_named m T.next_entry job)))

module _ (T : SchedulerTables) (m : ℤ) (job : Key) (valid : TablesValid T) (is : IsMoment T.horizon m) (room : T.next_entry + 1 ≤ NUMBER_LIMIT) where
  abbrev numbered : SchedulerTables
  numbered = record T { next_entry = T.next_entry + 1; last_moment = m }

  abbrev manual : TriggerSpec
  manual = manual_trigger m T.next_entry job

  abbrev manual_new : TriggerData
  manual_new = new_trigger T manual (Some m)

  valid-numbered : TablesValid numbered
  valid-numbered = valid-next_entry (record T { last_moment = m }) (T.next_entry + 1) (valid-moment T m valid is) (omega arith) room

  free_number : IsFreeNumber numbered manual.key.name T.next_entry
  free_number = free-next_entry (record T { last_moment = m }) manual.key.name (valid-moment T m valid is) (manual_named m T.next_entry job) room

  manual_is_new : is_none (job_of job T.jobs) ≡ false → IsNew numbered manual_new
  unfolding new_trigger new_state manual_trigger
  manual_is_new stored = record {
    absent = manual_absent T m job valid room;
    job = some_row_not_none _ stored;
    calendar = tt;
    zone = tt;
    free = first_free (is_in_paused T manual) (is_busy job T.fired);
    stays = λ goes_on. first_stays (is_in_paused T manual) (is_busy job T.fired) goes_on;
    blocked = λ waits. first_blocked (is_in_paused T manual) (is_busy job T.fired) waits;
    next = (λ live. refl, is);
  }

  manual_number : HasFreeNumber numbered manual_new
  unfolding new_trigger
  manual_number reserved = (T.next_entry, free_number)

pub kept-trigger_now : (T T' : SchedulerTables) (m : ℤ) (job : Key) (r : Reply) → TablesValid T → IsMoment T.horizon m → trigger_now T m job ≡ accepted T' r → TablesValid T'
unfolding trigger_now_refusal
kept-trigger_now T T' m job r valid is e =
    let way = passes (trigger_now_refusal T job) _ T' r e in
    let stored = not_refused (is_none (job_of job T.jobs)) _ _ way.clear in
    let full = not_refused (nat_le TRIGGER_LIMIT (length T.triggers)) _ _ stored.1 in
    let spent = not_refused (nat_lt NUMBER_LIMIT (T.next_entry + 1)) _ _ full.1 in
    let room : T.next_entry + 1 ≤ NUMBER_LIMIT = omega (arith, ltb-false _ _ spent.0) in
    let t : TriggerData = manual_new T m job valid is room in
    let same : accepted (record T { triggers = put_trigger (new_trigger T (manual_trigger m T.next_entry job) (Some m)) T.triggers; next_entry = T.next_entry + 1; last_moment = m }) _ ≡ accepted T' r = way.outcome in
    subst TablesValid (cc)
    (valid-put_trigger (numbered T m job valid is room) t (valid-numbered T m job valid is room) (manual_is_new T m job valid is room stored.0) (manual_number T m job valid is room) (omega (arith, leb-false _ _ full.0)))

-- Threshold.

pub kept-set_threshold : (T T' : SchedulerTables) (m ms : ℤ) (r : Reply) → IsTrue (is_interval ms) → TablesValid T → IsMoment T.horizon m → set_threshold T m ms ≡ accepted T' r → TablesValid T'
kept-set_threshold T T' m ms r good valid is e =
    let same : accepted (record T { threshold = ms; last_moment = m }) _ ≡ accepted T' r = e in
    subst TablesValid (cc) (valid-threshold (record T { last_moment = m }) ms (valid-moment T m valid is) good)
