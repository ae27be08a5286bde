-- An Upgrade keeps the tables valid.
use Rattle.std.proofs.Common.{◌≡◌, inr, ℕ, zero, suc, ◌≤◌, ℤ, ◌≤ℤ◌, List, map, Option, Some, None, IsSome, IfSome, IsSomeAnd, IsTrue, is_some, option_map, refl, sym, ap, ◌∙◌, subst, arith}
use Rattle.std.specs.List.{AllByRecursion}
use Rattle.std.proofs.lemmas.List.{length-map}
use Rattle.qz_civil.specs.declared.limits.TheConstants.{LAST}
use Rattle.qz_types.specs.Rows.{TriggerData, CalendarData, FiredData}
use Rattle.qz_types.specs.declared.fired.FiredState.{FiredState}
use Rattle.qz_types.specs.declared.fired.FiredState.TheVariants as row
use Rattle.qz_types.specs.declared.limits.TheConstants.{TRIGGER_LIMIT, CALENDAR_LIMIT, CHAIN_LIMIT}
use Rattle.qz_types.specs.declared.replies.Reply.{Reply}
use Rattle.qz_types.specs.Chains.{calendar_named, ends_within}
use Rattle.qz_types.specs.Outcomes.{accepted}
use Rattle.qz_types.specs.Tables.{SchedulerTables, IsMoment}
use Rattle.qz_types.specs.Words.{trigger_of, calendar_of}
use Rattle.qz_model.specs.Invariant.{AreStored, IsHorizon, IsRowOf, HasTimes, TablesValid}
use Rattle.qz_model.specs.Plan.{is_known_zone}
use Rattle.qz_model.specs.Upgrading.{widened_trigger, widened_calendar, upgrade_refusal, upgrade}
use Rattle.qz_model.proofs.Changes.{HasOneRow, HasItsTrigger, HasNextTime, HasRowTimes, HasJob, HasCalendar, HasZone, StaysBlocked, IsBlockedBy, HasNumber, SharesNone, HasNumber-kept, HasNumber-alike, passes, each_next, have_next, valid-moment}
use Rattle.qz_model.proofs.KeptCalendars.{valid-calendars}
use Rattle.qz_model.proofs.NextTimes.{horizon_of_valid, moment_further}
use Rattle.qz_model.proofs.References.{references-horizon, references-triggers}
use Rattle.qz_model.proofs.RowPoints.{All-weaker, All-map}
use Rattle.qz_model.proofs.Widened.{trigger_of-widened, calendar_of-widened, ordered-widened_triggers, ordered-widened_calendars, widened_zone}

-- The horizon moves on.

moments_further : (near far : ℤ) (o : Option ℤ) → near ≤ℤ far → IfSome o (IsMoment near) → IfSome o (IsMoment far)
moments_further near far None further is = tt
moments_further near far (Some m) further is = moment_further near far m further is

times_further : (near far : ℤ) (f : FiredData) (s : FiredState) → near ≤ℤ far → HasTimes near f s → HasTimes far f s
times_further near far f row.Acquired further is = is
times_further near far f row.Executing further is = (moment_further near far f.scheduled further is.0, is.1)

valid-horizon : (T : SchedulerTables) (far : ℤ) → IsHorizon far → T.horizon ≤ℤ far → TablesValid T → TablesValid (record T { horizon = far })
valid-horizon T far is further valid = record {
  references_and_limits = references-horizon T valid.references_and_limits far is;
  acquired_match = valid.acquired_match;
  concurrency_agrees = valid.concurrency_agrees;
  one_exclusive = valid.one_exclusive;
  blocked_are_busy = valid.blocked_are_busy;
  rows_of_members = valid.rows_of_members;
  next_times = have_next far T.last_moment T.triggers
      (All-weaker (HasNextTime T.horizon) (HasNextTime far) T.triggers (λ t has. (has.0, moments_further T.horizon far t.next further has.1)) (each_next T valid))
      (moment_further T.horizon far T.last_moment further valid.next_times.moment);
  fresh = record {
    fired = valid.fresh.fired;
    added = All-weaker (HasNumber T) (HasNumber (record T { horizon = far })) T.triggers
        (λ t has. HasNumber-kept T (record T { horizon = far }) t (omega arith) (λ n below none. none) (λ n all. all) has) valid.fresh.added;
  };
  row_times = record { rows = All-weaker (HasRowTimes T.horizon) (HasRowTimes far) T.fired (λ f has. times_further T.horizon far f f.state further has) valid.row_times.rows };
}

-- Calendars are widened: each has its name, its zone and its base still.

named_widened : (calendars : List CalendarData) (o : Option (List ℕ)) → calendar_named (map widened_calendar calendars) o ≡ option_map widened_calendar (calendar_named calendars o)
named_widened calendars None = refl
named_widened calendars (Some name) = calendar_of-widened name calendars

is_some-map : (o : Option CalendarData) → is_some (option_map widened_calendar o) ≡ is_some o
is_some-map None = refl
is_some-map (Some c) = refl

still_stored : (calendars : List CalendarData) (o : Option (List ℕ)) → IfSome o (λ name. IsSome (calendar_of name calendars)) → IfSome o (λ name. IsSome (calendar_of name (map widened_calendar calendars)))
still_stored calendars None is = tt
still_stored calendars (Some name) is = ap is_some (calendar_of-widened name calendars) ∙ is_some-map (calendar_of name calendars) ∙ is

ends_widened : (calendars : List CalendarData) (n : ℕ) (o : Option CalendarData) → ends_within (map widened_calendar calendars) n (option_map widened_calendar o) ≡ ends_within calendars n o
unfolding ends_within
ends_widened calendars zero None = refl
ends_widened calendars (suc n) None = refl
ends_widened calendars zero (Some c) = refl
ends_widened calendars (suc n) (Some c) = ap (ends_within (map widened_calendar calendars) n) (named_widened calendars c.base) ∙ ends_widened calendars n (calendar_named calendars c.base)

module _ (T : SchedulerTables) (valid : TablesValid T) where
  abbrev calendars_then : List CalendarData
  calendars_then = map widened_calendar T.calendars

  stored_calendars : AreStored T.jobs T.triggers calendars_then T.zones
  stored_calendars = let was = valid.references_and_limits.stored in record {
    trigger_jobs = was.trigger_jobs;
    trigger_calendars = All-weaker (HasCalendar T.calendars) (HasCalendar calendars_then) T.triggers (λ t is. still_stored T.calendars t.spec.calendar is) was.trigger_calendars;
    trigger_zones = was.trigger_zones;
    bases = All-map (λ c. IfSome c.base (λ name. IsSome (calendar_of name calendars_then))) widened_calendar T.calendars
        (All-weaker (λ c. IfSome c.base (λ name. IsSome (calendar_of name T.calendars))) (λ c. IfSome c.base (λ name. IsSome (calendar_of name calendars_then))) T.calendars
        (λ c is. still_stored T.calendars c.base is) was.bases);
    calendar_zones = All-map (λ c. IsTrue (is_known_zone T.zones c.zone)) widened_calendar T.calendars was.calendar_zones;
    chains = All-map (λ c. IsTrue (ends_within calendars_then CHAIN_LIMIT (Some c))) widened_calendar T.calendars
        (All-weaker (λ c. IsTrue (ends_within T.calendars CHAIN_LIMIT (Some c))) (λ c. IsTrue (ends_within calendars_then CHAIN_LIMIT (Some (widened_calendar c)))) T.calendars
        (λ c is. ends_widened T.calendars CHAIN_LIMIT (Some c) ∙ is) was.chains);
  }

  valid-widened_calendars : TablesValid (record T { calendars = calendars_then })
  valid-widened_calendars = let was = valid.references_and_limits in
      valid-calendars T calendars_then valid (ordered-widened_calendars T.calendars was.ordered.calendars) stored_calendars
      (subst (λ n. n ≤ CALENDAR_LIMIT) (sym (length-map T.calendars widened_calendar)) was.limits.calendars)

-- Triggers are widened: each has its key, its job, its calendar, its zone, its next time and its state still.

found_widened : (f : FiredData) (o : Option TriggerData) → IsSomeAnd o (IsRowOf f) → IsSomeAnd (option_map widened_trigger o) (IsRowOf f)
found_widened f None is = absurd is
found_widened f (Some t) is = record { state = is.state; job = is.job; next = is.next }

module _ (T : SchedulerTables) (valid : TablesValid T) where
  abbrev triggers_then : List TriggerData
  triggers_then = map widened_trigger T.triggers

  abbrev after_widening : SchedulerTables
  after_widening = record T { triggers = triggers_then }

  stored_triggers : AreStored T.jobs triggers_then T.calendars T.zones
  stored_triggers = let was = valid.references_and_limits.stored in record {
    trigger_jobs = All-map (HasJob T.jobs) widened_trigger T.triggers was.trigger_jobs;
    trigger_calendars = All-map (HasCalendar T.calendars) widened_trigger T.triggers was.trigger_calendars;
    trigger_zones = All-map (HasZone T.zones) widened_trigger T.triggers
        (All-weaker (HasZone T.zones) (λ t. HasZone T.zones (widened_trigger t)) T.triggers
        (λ t is. subst (λ o. IfSome o (λ name. IsTrue (is_known_zone T.zones name))) (sym (widened_zone t.spec.timing.kind)) is) was.trigger_zones);
    bases = was.bases;
    calendar_zones = was.calendar_zones;
    chains = was.chains;
  }

  numbers_widened : AllByRecursion (HasNumber after_widening) triggers_then
  numbers_widened =
      All-map (HasNumber after_widening) widened_trigger T.triggers
      (All-weaker (HasNumber T) (λ t. HasNumber after_widening (widened_trigger t)) T.triggers
      (λ t has. HasNumber-alike after_widening t (widened_trigger t) refl
      (HasNumber-kept T after_widening t (omega arith) (λ n below none. none) (λ n all. All-map (SharesNone t.spec.key n) widened_trigger T.triggers all) has)) valid.fresh.added)

  valid-widened_triggers : TablesValid after_widening
  valid-widened_triggers = record {
    references_and_limits = let was = valid.references_and_limits in
        references-triggers T was triggers_then (ordered-widened_triggers T.triggers was.ordered.triggers) stored_triggers
        (subst (λ n. n ≤ TRIGGER_LIMIT) (sym (length-map T.triggers widened_trigger)) was.limits.triggers);
    acquired_match = record {
      one_row = All-map (HasOneRow T.fired) widened_trigger T.triggers valid.acquired_match.one_row;
      a_trigger = All-weaker (HasItsTrigger T.triggers) (HasItsTrigger triggers_then) T.fired
          (λ f has taken. subst (λ o. IsSomeAnd o (IsRowOf f)) (sym (trigger_of-widened f.trigger T.triggers)) (found_widened f (trigger_of f.trigger T.triggers) (has taken)))
          valid.acquired_match.a_trigger;
    };
    concurrency_agrees = valid.concurrency_agrees;
    one_exclusive = record { one = valid.one_exclusive.one; blocked = All-map (StaysBlocked T.fired) widened_trigger T.triggers valid.one_exclusive.blocked };
    blocked_are_busy = record { busy = All-map (IsBlockedBy T.fired) widened_trigger T.triggers valid.blocked_are_busy.busy };
    rows_of_members = valid.rows_of_members;
    next_times = have_next T.horizon T.last_moment triggers_then (All-map (HasNextTime T.horizon) widened_trigger T.triggers (each_next T valid)) valid.next_times.moment;
    fresh = record { fired = valid.fresh.fired; added = numbers_widened };
    row_times = valid.row_times;
  }

pub kept-upgrade : (T T' : SchedulerTables) (m : ℤ) (r : Reply) → TablesValid T → IsMoment T.horizon m → upgrade T m ≡ accepted T' r → TablesValid T'
kept-upgrade T T' m r valid is e =
    let way = passes (upgrade_refusal T) _ T' r e in
    let same : accepted (record T { triggers = map widened_trigger T.triggers; calendars = map widened_calendar T.calendars; horizon = LAST; last_moment = m }) _ ≡ accepted T' r = way.outcome in
    let moved : TablesValid (record T { last_moment = m; horizon = LAST }) = valid-horizon (record T { last_moment = m }) LAST (inr refl) (horizon_of_valid T valid).high (valid-moment T m valid is) in
    let first : TablesValid (record T { last_moment = m; horizon = LAST; calendars = map widened_calendar T.calendars }) = valid-widened_calendars (record T { last_moment = m; horizon = LAST }) moved in
    subst TablesValid (cc) (valid-widened_triggers (record T { last_moment = m; horizon = LAST; calendars = map widened_calendar T.calendars }) first)
