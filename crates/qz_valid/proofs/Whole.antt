-- The invariant, from the tests and back.
use Rattle.std.proofs.Common.{Ok, Err, IfOk, ◌≡◌, ◌<◌, Bool, true, false, ◌&&◌, List, count_by, Some, IsSome, IsSomeAnd, IfSome, IsTrue, sym, ◌∙◌}
use Rattle.std.specs.declared.result.Result.{Result}
use Rattle.std.specs.Bool.{Decides}
use Rattle.std.specs.List.{AllByRecursion, list_all}
use Rattle.std.proofs.lemmas.Bool.Decides.{Decides-and, Decides-like}
use Rattle.qz_types.specs.Rows.{TriggerData, CalendarData, MemberData, FiredData}
use Rattle.qz_types.specs.Tables.{SchedulerTables, IsMoment}
use Rattle.qz_types.specs.Chains.{ends_within}
use Rattle.qz_types.specs.States.{is_acquired, is_acquired_for}
use Rattle.qz_types.specs.Words.{job_of, trigger_of, calendar_of, member_of}
use Rattle.qz_types.specs.declared.keys.Key.{Key}
use Rattle.qz_types.specs.declared.limits.TheConstants.{CHAIN_LIMIT}
use Rattle.qz_types.specs.declared.triggers.TriggerState.TheVariants as state
use Rattle.qz_model.specs.Executions.{is_busy}
use Rattle.qz_model.specs.Invariant.{AreOrdered, AreStored, AcquiredMatch, OneExclusive, RowsOfMembers, TablesValid, IsRowOf, HasTimes, is_blocked, is_blocked_or_done, is_live_state}
use Rattle.qz_model.specs.Plan.{zone_named_by, is_known_zone}
use Rattle.qz_model.proofs.RowPoints.{All-weaker, All-both}
use Rattle.qz_valid.specs.Calendars.{calendar_fits}
use Rattle.qz_valid.specs.Fired.{fired_fits}
use Rattle.qz_valid.specs.Limits.{counts_fit, numbers_fit, names_fit}
use Rattle.qz_valid.specs.Members.{member_fits}
use Rattle.qz_valid.specs.Names.{name_fits, AreApart}
use Rattle.qz_valid.specs.Triggers.{trigger_fits}
use Rattle.qz_valid.specs.Whole.{rows_fit}
use Rattle.qz_valid.specs.declared.keys.Counted.TheVariants.{Acquired, Exclusive}
use Rattle.qz_valid.proofs.Agreement.{concurrency_agrees, agrees_each}
use Rattle.qz_valid.proofs.Deciding.{all_decided}
use Rattle.qz_valid.proofs.FiredTests.{Agrees, FiredFits, fired_decided}
use Rattle.qz_valid.proofs.Freshness.{named_from, fit_from, apart_from}
use Rattle.qz_valid.proofs.LimitTests.{WithinLimits, limits_decided}
use Rattle.qz_valid.proofs.Sets.{Counts, busy_is, one_acquired, acquired_one, one_exclusive}
use Rattle.qz_valid.proofs.TriggerTests.{CalendarFits, calendar_decided, MemberFits, member_decided, TriggerFits, trigger_decided}

-- what the tests of all rows say
pub record RowsFit (T : SchedulerTables) (acquired exclusive : List Key) : Type 0 where
  pub calendars : AllByRecursion (CalendarFits T) T.calendars
  pub members : AllByRecursion (MemberFits T) T.members
  pub fired : AllByRecursion (FiredFits T exclusive) T.fired
  pub triggers : AllByRecursion (TriggerFits T acquired exclusive) T.triggers

pub rows_decided : (T : SchedulerTables) (acquired exclusive : List Key) → Decides (rows_fit T acquired exclusive) (RowsFit T acquired exclusive)
unfolding rows_fit
rows_decided T acquired exclusive = Decides-like (rows_fit T acquired exclusive)
    (λ p. record { calendars = p.0; members = p.1.0; fired = p.1.1.0; triggers = p.1.1.1 })
    (λ (r : RowsFit T acquired exclusive). (r.calendars, (r.members, (r.fired, r.triggers))))
    (Decides-and (list_all (calendar_fits T) T.calendars) _ (all_decided (calendar_fits T) (CalendarFits T) (calendar_decided T) T.calendars)
    (Decides-and (list_all (member_fits T) T.members) _ (all_decided (member_fits T) (MemberFits T) (member_decided T) T.members)
    (Decides-and (list_all (fired_fits T exclusive) T.fired) (list_all (trigger_fits T acquired exclusive) T.triggers)
    (all_decided (fired_fits T exclusive) (FiredFits T exclusive) (fired_decided T exclusive) T.fired)
    (all_decided (trigger_fits T acquired exclusive) (TriggerFits T acquired exclusive) (trigger_decided T acquired exclusive) T.triggers))))

module _ (T : SchedulerTables) (acquired exclusive : List Key) (a_set : Counts Acquired T.fired acquired) (e_set : Counts Exclusive T.fired exclusive) where
  -- From the tests.

  module _ (r : RowsFit T acquired exclusive) where
    -- what holds of each trigger, and of each of the others
    triggers : (P : TriggerData → Type 0) → ((t : TriggerData) → TriggerFits T acquired exclusive t → P t) → AllByRecursion P T.triggers
    triggers P f = All-weaker (TriggerFits T acquired exclusive) P T.triggers f r.triggers

    calendars : (P : CalendarData → Type 0) → ((c : CalendarData) → CalendarFits T c → P c) → AllByRecursion P T.calendars
    calendars P f = All-weaker (CalendarFits T) P T.calendars f r.calendars

    members : (P : MemberData → Type 0) → ((m : MemberData) → MemberFits T m → P m) → AllByRecursion P T.members
    members P f = All-weaker (MemberFits T) P T.members f r.members

    rows : (P : FiredData → Type 0) → ((f : FiredData) → FiredFits T exclusive f → P f) → AllByRecursion P T.fired
    rows P f = All-weaker (FiredFits T exclusive) P T.fired f r.fired

    stored : AreStored T.jobs T.triggers T.calendars T.zones
    stored = record {
      trigger_jobs = triggers (λ t. IsSome (job_of t.spec.job T.jobs)) (λ t f. f.job);
      trigger_calendars = triggers (λ t. IfSome t.spec.calendar (λ name. IsSome (calendar_of name T.calendars))) (λ t f. f.calendar);
      trigger_zones = triggers (λ t. IfSome (zone_named_by t.spec.timing.kind) (λ name. IsTrue (is_known_zone T.zones name))) (λ t f. f.zone);
      bases = calendars (λ c. IfSome c.base (λ name. IsSome (calendar_of name T.calendars))) (λ c f. f.base);
      calendar_zones = calendars (λ c. IsTrue (is_known_zone T.zones c.zone)) (λ c f. f.zone);
      chains = calendars (λ c. IsTrue (ends_within T.calendars CHAIN_LIMIT (Some c))) (λ c f. f.chain);
    }

    acquired_match : AcquiredMatch T.triggers T.fired
    acquired_match = record {
      one_row = triggers (λ t. t.state ≡ state.Acquired → count_by (is_acquired_for t.spec.key) T.fired ≡ 1) (λ t f is. one_acquired T.fired acquired a_set t.spec.key (f.has_row is));
      a_trigger = rows (λ f. is_acquired f.state ≡ true → IsSomeAnd (trigger_of f.trigger T.triggers) (IsRowOf f)) (λ f x. x.state.trigger);
    }

    one_of_each : OneExclusive T.triggers T.fired
    one_of_each = record {
      one = one_exclusive T.fired exclusive e_set;
      blocked = triggers (λ t. is_busy t.spec.job T.fired ≡ true → is_blocked_or_done t.state ≡ true) (λ t f busy. f.blocked (sym (busy_is T.fired exclusive e_set t.spec.job) ∙ busy));
    }

    of_members : RowsOfMembers T.members T.next_epoch T.fired
    of_members = record {
      given = members (λ m. m.epoch < T.next_epoch) (λ m f. f.given);
      distinct = members (λ m. AllByRecursion (λ n. n.epoch ≡ m.epoch → n ≡ m) T.members) (λ m f. f.distinct);
      rows = rows (λ f. IsSomeAnd (member_of f.node T.members) (λ m. m.epoch ≡ f.epoch)) (λ f x. x.member);
    }

    pub valid_from : AreOrdered T → WithinLimits T → AreApart T.triggers → TablesValid T
    valid_from ordered within apart = record {
      references_and_limits = record { ordered = ordered; stored = stored; limits = within.limits };
      acquired_match = acquired_match;
      concurrency_agrees = concurrency_agrees T.jobs T.fired exclusive e_set ordered.jobs (rows (λ f. is_acquired f.state ≡ false → Agrees T.jobs exclusive f) (λ f x. x.state.agrees));
      one_exclusive = one_of_each;
      blocked_are_busy = record { busy = triggers (λ t. is_blocked t.state ≡ true → is_busy t.spec.job T.fired ≡ true) (λ t f is. busy_is T.fired exclusive e_set t.spec.job ∙ f.busy is) };
      rows_of_members = of_members;
      next_times = record {
        next = triggers (λ t. is_live_state t.state ≡ true → IsSome t.next) (λ t f. f.next);
        within = triggers (λ t. IfSome t.next (IsMoment T.horizon)) (λ t f. f.within);
        moment = within.moment;
      };
      fresh = record {
        fired = rows (λ f. f.entry < T.next_entry) (λ f x. x.entry);
        added = named_from T within.limits.next_entry (triggers (λ t. name_fits T t ≡ true) (λ t f. f.name)) apart;
      };
      row_times = record { rows = rows (λ f. HasTimes T.horizon f f.state) (λ f x. x.state.times) };
    }

  -- And back.

  pairs : {R : Type 0} (P Q : R → Type 0) (xs : List R) → AllByRecursion P xs → AllByRecursion Q xs → AllByRecursion (λ x. P x × Q x) xs
  pairs P Q xs a b = All-both P Q (λ x. P x × Q x) xs (λ x p q. (p, q)) a b

  module _ (v : TablesValid T) where
    calendars_back : AllByRecursion (CalendarFits T) T.calendars
    calendars_back = All-both (λ c. IfSome c.base (λ name. IsSome (calendar_of name T.calendars)) × IsTrue (is_known_zone T.zones c.zone)) (λ c. IsTrue (ends_within T.calendars CHAIN_LIMIT (Some c))) (CalendarFits T) T.calendars
        (λ c p chain. record { base = p.0; zone = p.1; chain = chain })
        (pairs (λ c. IfSome c.base (λ name. IsSome (calendar_of name T.calendars))) (λ c. IsTrue (is_known_zone T.zones c.zone)) T.calendars v.references_and_limits.stored.bases v.references_and_limits.stored.calendar_zones)
        v.references_and_limits.stored.chains

    members_back : AllByRecursion (MemberFits T) T.members
    members_back = All-both (λ m. m.epoch < T.next_epoch) (λ m. AllByRecursion (λ n. n.epoch ≡ m.epoch → n ≡ m) T.members) (MemberFits T) T.members
        (λ m given distinct. record { given = given; distinct = distinct }) v.rows_of_members.given v.rows_of_members.distinct

    fired_back : AllByRecursion (FiredFits T exclusive) T.fired
    fired_back = All-both (λ f. (f.entry < T.next_entry) × IsSomeAnd (member_of f.node T.members) (λ m. m.epoch ≡ f.epoch))
        (λ f. HasTimes T.horizon f f.state × ((is_acquired f.state ≡ true → IsSomeAnd (trigger_of f.trigger T.triggers) (IsRowOf f)) × (is_acquired f.state ≡ false → Agrees T.jobs exclusive f)))
        (FiredFits T exclusive) T.fired
        (λ f own s. record { entry = own.0; member = own.1; state = record { times = s.0; trigger = s.1.0; agrees = s.1.1 } })
        (pairs (λ f. f.entry < T.next_entry) (λ f. IsSomeAnd (member_of f.node T.members) (λ m. m.epoch ≡ f.epoch)) T.fired v.fresh.fired v.rows_of_members.rows)
        (pairs (λ f. HasTimes T.horizon f f.state) (λ f. (is_acquired f.state ≡ true → IsSomeAnd (trigger_of f.trigger T.triggers) (IsRowOf f)) × (is_acquired f.state ≡ false → Agrees T.jobs exclusive f)) T.fired
        v.row_times.rows
        (pairs (λ f. is_acquired f.state ≡ true → IsSomeAnd (trigger_of f.trigger T.triggers) (IsRowOf f)) (λ f. is_acquired f.state ≡ false → Agrees T.jobs exclusive f) T.fired
        v.acquired_match.a_trigger (agrees_each T.jobs T.fired exclusive e_set v.concurrency_agrees)))

    -- what a trigger names, what it has to do with fired rows, and its next time
    names_back : AllByRecursion (λ t. IsSome (job_of t.spec.job T.jobs) × (IfSome t.spec.calendar (λ name. IsSome (calendar_of name T.calendars)) × IfSome (zone_named_by t.spec.timing.kind) (λ name. IsTrue (is_known_zone T.zones name)))) T.triggers
    names_back = pairs (λ t. IsSome (job_of t.spec.job T.jobs)) (λ t. IfSome t.spec.calendar (λ name. IsSome (calendar_of name T.calendars)) × IfSome (zone_named_by t.spec.timing.kind) (λ name. IsTrue (is_known_zone T.zones name))) T.triggers
        v.references_and_limits.stored.trigger_jobs
        (pairs (λ t. IfSome t.spec.calendar (λ name. IsSome (calendar_of name T.calendars))) (λ t. IfSome (zone_named_by t.spec.timing.kind) (λ name. IsTrue (is_known_zone T.zones name))) T.triggers
        v.references_and_limits.stored.trigger_calendars v.references_and_limits.stored.trigger_zones)

    states_back : AllByRecursion (λ t. (t.state ≡ state.Acquired → count_by (is_acquired_for t.spec.key) T.fired ≡ 1)
        × ((is_busy t.spec.job T.fired ≡ true → is_blocked_or_done t.state ≡ true) × (is_blocked t.state ≡ true → is_busy t.spec.job T.fired ≡ true))) T.triggers
    states_back = pairs (λ t. t.state ≡ state.Acquired → count_by (is_acquired_for t.spec.key) T.fired ≡ 1)
        (λ t. (is_busy t.spec.job T.fired ≡ true → is_blocked_or_done t.state ≡ true) × (is_blocked t.state ≡ true → is_busy t.spec.job T.fired ≡ true)) T.triggers
        v.acquired_match.one_row
        (pairs (λ t. is_busy t.spec.job T.fired ≡ true → is_blocked_or_done t.state ≡ true) (λ t. is_blocked t.state ≡ true → is_busy t.spec.job T.fired ≡ true) T.triggers v.one_exclusive.blocked v.blocked_are_busy.busy)

    times_back : AllByRecursion (λ t. (is_live_state t.state ≡ true → IsSome t.next) × (IfSome t.next (IsMoment T.horizon) × (name_fits T t ≡ true))) T.triggers
    times_back = pairs (λ t. is_live_state t.state ≡ true → IsSome t.next) (λ t. IfSome t.next (IsMoment T.horizon) × (name_fits T t ≡ true)) T.triggers
        v.next_times.next
        (pairs (λ t. IfSome t.next (IsMoment T.horizon)) (λ t. name_fits T t ≡ true) T.triggers v.next_times.within (fit_from T v.references_and_limits.limits.next_entry v.fresh.added))

    triggers_back : AllByRecursion (TriggerFits T acquired exclusive) T.triggers
    triggers_back = All-both
        (λ t. IsSome (job_of t.spec.job T.jobs) × (IfSome t.spec.calendar (λ name. IsSome (calendar_of name T.calendars)) × IfSome (zone_named_by t.spec.timing.kind) (λ name. IsTrue (is_known_zone T.zones name))))
        (λ t. ((t.state ≡ state.Acquired → count_by (is_acquired_for t.spec.key) T.fired ≡ 1)
        × ((is_busy t.spec.job T.fired ≡ true → is_blocked_or_done t.state ≡ true) × (is_blocked t.state ≡ true → is_busy t.spec.job T.fired ≡ true)))
        × ((is_live_state t.state ≡ true → IsSome t.next) × (IfSome t.next (IsMoment T.horizon) × (name_fits T t ≡ true))))
        (TriggerFits T acquired exclusive) T.triggers
        (λ t names s. record {
          job = names.0;
          calendar = names.1.0;
          zone = names.1.1;
          has_row = λ is. acquired_one T.fired acquired a_set t.spec.key (s.0.0 is);
          blocked = λ is. s.0.1.0 (busy_is T.fired exclusive e_set t.spec.job ∙ is);
          busy = λ is. sym (busy_is T.fired exclusive e_set t.spec.job) ∙ s.0.1.1 is;
          next = s.1.0;
          within = s.1.1.0;
          name = s.1.1.1;
        })
        names_back
        (pairs
        (λ t. (t.state ≡ state.Acquired → count_by (is_acquired_for t.spec.key) T.fired ≡ 1)
        × ((is_busy t.spec.job T.fired ≡ true → is_blocked_or_done t.state ≡ true) × (is_blocked t.state ≡ true → is_busy t.spec.job T.fired ≡ true)))
        (λ t. (is_live_state t.state ≡ true → IsSome t.next) × (IfSome t.next (IsMoment T.horizon) × (name_fits T t ≡ true))) T.triggers states_back times_back)

    rows_back : RowsFit T acquired exclusive
    rows_back = record { calendars = calendars_back; members = members_back; fired = fired_back; triggers = triggers_back }

  -- The tests decide.

  -- rows that don't fit are of tables that aren't valid
  pub unfit : rows_fit T acquired exclusive ≡ false → TablesValid T → ⊥
  unfit fails v = let passes = (rows_decided T acquired exclusive).1 (rows_back v) in absurd (cc)

  pub decided : AreOrdered T → WithinLimits T → rows_fit T acquired exclusive ≡ true → (b : Bool) → Decides b (AreApart T.triggers) → Decides b (TablesValid T)
  decided ordered within fit b apart = Decides-like b
      (λ is. valid_from ((rows_decided T acquired exclusive).0 fit) ordered within is)
      (λ (v : TablesValid T). apart_from T v.references_and_limits.limits.next_entry v.references_and_limits.ordered.triggers v.fresh.added)
      apart

  -- what a call that may lack memory says
  pub told : {E : Type 0} → AreOrdered T → WithinLimits T → rows_fit T acquired exclusive ≡ true → (r : Result Bool E) → IfOk r (λ b. Decides b (AreApart T.triggers)) → IfOk r (λ b. Decides b (TablesValid T))
  told ordered within fit (Err e) apart = tt
  told ordered within fit (Ok b) apart = decided ordered within fit b apart

-- tables past a limit aren't valid
pub past_limits : (T : SchedulerTables) → (counts_fit T && (numbers_fit T && names_fit T)) ≡ false → TablesValid T → ⊥
past_limits T fails v = let passes = (limits_decided T).1 (record { limits = v.references_and_limits.limits; moment = v.next_times.moment }) in absurd (cc)
