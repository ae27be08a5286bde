-- What the tests of counts, numbers and names of paused groups decide.
use Rattle.std.proofs.Common.{◌≡◌, ℕ, ◌≤◌, ℤ, pos, true, ◌&&◌, List, length, IsTrue}
use Rattle.std.specs.List.{list_all}
use Rattle.std.specs.Bool.{Decides}
use Rattle.std.specs.Ordering.{int_eq}
use Rattle.std.proofs.lemmas.Bool.Decides.{Decides-and, Decides-or, Decides-like, Decides-int_eq}
use Rattle.qz_civil.specs.Timings.{is_name}
use Rattle.qz_civil.specs.declared.limits.TheConstants.{LAST, VERSION_ONE_LAST}
use Rattle.qz_types.specs.Rows.{is_interval}
use Rattle.qz_types.specs.Tables.{SchedulerTables, IsMoment}
use Rattle.qz_types.specs.declared.limits.TheConstants.{JOB_LIMIT, TRIGGER_LIMIT, CALENDAR_LIMIT, ZONE_LIMIT, GROUP_LIMIT, JOB_GROUP_LIMIT, MEMBER_LIMIT, FIRED_LIMIT, NUMBER_LIMIT}
use Rattle.qz_model.specs.Invariant.{IsHorizon, AreNames, AreWithinLimits}
use Rattle.qz_valid.specs.Limits.{is_moment, is_horizon, counts_fit, numbers_fit, names_fit}
use Rattle.qz_valid.proofs.Deciding.{itself, le_decided, int_le_decided, all_decided}

pub moment_decided : (horizon m : ℤ) → Decides (is_moment horizon m) (IsMoment horizon m)
moment_decided horizon m =
    Decides-like (is_moment horizon m) (λ p. record { low = p.0; high = p.1 }) (λ (i : IsMoment horizon m). (i.low, i.high)) (Decides-and _ _ (int_le_decided (pos 0) m) (int_le_decided m horizon))

horizon_decided : (horizon : ℤ) → Decides (is_horizon horizon) (IsHorizon horizon)
horizon_decided horizon = Decides-or (int_eq horizon VERSION_ONE_LAST) (int_eq horizon LAST) (Decides-int_eq horizon VERSION_ONE_LAST) (Decides-int_eq horizon LAST)

-- what is said of the counts
record CountsFit (T : SchedulerTables) : Type 0 where
  pub jobs : length T.jobs ≤ JOB_LIMIT
  pub triggers : length T.triggers ≤ TRIGGER_LIMIT
  pub calendars : length T.calendars ≤ CALENDAR_LIMIT
  pub zones : length T.zones ≤ ZONE_LIMIT
  pub paused_groups : length T.paused_groups ≤ GROUP_LIMIT
  pub paused_job_groups : length T.paused_job_groups ≤ JOB_GROUP_LIMIT
  pub members : length T.members ≤ MEMBER_LIMIT
  pub fired : length T.fired ≤ FIRED_LIMIT

counts_decided : (T : SchedulerTables) → Decides (counts_fit T) (CountsFit T)
unfolding counts_fit
counts_decided T = Decides-like (counts_fit T)
    (λ p. record { jobs = p.0; triggers = p.1.0; calendars = p.1.1.0; zones = p.1.1.1.0; paused_groups = p.1.1.1.1.0; paused_job_groups = p.1.1.1.1.1.0; members = p.1.1.1.1.1.1.0; fired = p.1.1.1.1.1.1.1 })
    (λ (c : CountsFit T). (c.jobs, (c.triggers, (c.calendars, (c.zones, (c.paused_groups, (c.paused_job_groups, (c.members, c.fired))))))))
    (Decides-and _ _ (le_decided (length T.jobs) JOB_LIMIT)
    (Decides-and _ _ (le_decided (length T.triggers) TRIGGER_LIMIT)
    (Decides-and _ _ (le_decided (length T.calendars) CALENDAR_LIMIT)
    (Decides-and _ _ (le_decided (length T.zones) ZONE_LIMIT)
    (Decides-and _ _ (le_decided (length T.paused_groups) GROUP_LIMIT)
    (Decides-and _ _ (le_decided (length T.paused_job_groups) JOB_GROUP_LIMIT)
    (Decides-and _ _ (le_decided (length T.members) MEMBER_LIMIT) (le_decided (length T.fired) FIRED_LIMIT))))))))

-- what is said of the numbers
record NumbersFit (T : SchedulerTables) : Type 0 where
  pub next_entry : T.next_entry ≤ NUMBER_LIMIT
  pub next_epoch : T.next_epoch ≤ NUMBER_LIMIT
  pub threshold : is_interval T.threshold ≡ true
  pub horizon : IsHorizon T.horizon
  pub moment : IsMoment T.horizon T.last_moment

numbers_decided : (T : SchedulerTables) → Decides (numbers_fit T) (NumbersFit T)
unfolding numbers_fit
numbers_decided T = Decides-like (numbers_fit T)
    (λ p. record { next_entry = p.0; next_epoch = p.1.0; threshold = p.1.1.0; horizon = p.1.1.1.0; moment = p.1.1.1.1 })
    (λ (n : NumbersFit T). (n.next_entry, (n.next_epoch, (n.threshold, (n.horizon, n.moment)))))
    (Decides-and _ _ (le_decided T.next_entry NUMBER_LIMIT)
    (Decides-and _ _ (le_decided T.next_epoch NUMBER_LIMIT)
    (Decides-and _ _ (itself (is_interval T.threshold))
    (Decides-and _ _ (horizon_decided T.horizon) (moment_decided T.horizon T.last_moment)))))

-- what is said of the names
record NamesFit (T : SchedulerTables) : Type 0 where
  pub groups : AreNames T.paused_groups
  pub job_groups : AreNames T.paused_job_groups

names_are : (groups : List (List ℕ)) → Decides (list_all is_name groups) (AreNames groups)
names_are groups = all_decided is_name (λ group. IsTrue (is_name group)) (λ group. itself (is_name group)) groups

names_decided : (T : SchedulerTables) → Decides (names_fit T) (NamesFit T)
unfolding names_fit
names_decided T = Decides-like (names_fit T)
    (λ p. record { groups = p.0; job_groups = p.1 })
    (λ (n : NamesFit T). (n.groups, n.job_groups))
    (Decides-and _ _ (names_are T.paused_groups) (names_are T.paused_job_groups))

-- what is said of all three
pub record WithinLimits (T : SchedulerTables) : Type 0 where
  pub limits : AreWithinLimits T
  pub moment : IsMoment T.horizon T.last_moment

pub limits_decided : (T : SchedulerTables) → Decides (counts_fit T && (numbers_fit T && names_fit T)) (WithinLimits T)
limits_decided T = Decides-like (counts_fit T && (numbers_fit T && names_fit T))
    (λ p. record {
      limits = record {
        jobs = p.0.jobs;
        triggers = p.0.triggers;
        calendars = p.0.calendars;
        zones = p.0.zones;
        paused_groups = p.0.paused_groups;
        paused_job_groups = p.0.paused_job_groups;
        members = p.0.members;
        fired = p.0.fired;
        next_entry = p.1.0.next_entry;
        next_epoch = p.1.0.next_epoch;
        threshold = p.1.0.threshold;
        horizon = p.1.0.horizon;
        group_names = p.1.1.groups;
        job_group_names = p.1.1.job_groups;
      };
      moment = p.1.0.moment;
    })
    (λ (w : WithinLimits T). (
      record {
        jobs = w.limits.jobs;
        triggers = w.limits.triggers;
        calendars = w.limits.calendars;
        zones = w.limits.zones;
        paused_groups = w.limits.paused_groups;
        paused_job_groups = w.limits.paused_job_groups;
        members = w.limits.members;
        fired = w.limits.fired;
      },
      (
        record {
          next_entry = w.limits.next_entry;
          next_epoch = w.limits.next_epoch;
          threshold = w.limits.threshold;
          horizon = w.limits.horizon;
          moment = w.moment;
        },
        record { groups = w.limits.group_names; job_groups = w.limits.job_group_names },
      ),
    ))
    (Decides-and (counts_fit T) (numbers_fit T && names_fit T) (counts_decided T) (Decides-and (numbers_fit T) (names_fit T) (numbers_decided T) (names_decided T)))
