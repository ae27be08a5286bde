-- References and limits, where one list is changed.
use Rattle.std.proofs.Common.{ℕ, ◌≤◌, ℤ, List, length, IsTrue}
use Rattle.std.specs.Ordering.{nat_cmp}
use Rattle.qz_types.specs.Sorted.{IsAscending}
use Rattle.qz_types.specs.Rows.{JobData, TriggerData, MemberData, FiredData, is_interval, CalendarData, ZoneData}
use Rattle.qz_types.specs.declared.limits.TheConstants.{JOB_LIMIT, TRIGGER_LIMIT, MEMBER_LIMIT, FIRED_LIMIT, NUMBER_LIMIT, CALENDAR_LIMIT, ZONE_LIMIT, GROUP_LIMIT, JOB_GROUP_LIMIT}
use Rattle.qz_types.specs.Tables.{SchedulerTables}
use Rattle.qz_types.specs.Words.{key_cmp, text_cmp}
use Rattle.qz_model.specs.Invariant.{AreNames, AreStored, IsHorizon, ReferencesAndLimits}

module _ (T : SchedulerTables) (was : ReferencesAndLimits T) where
  pub references-moment : (m : ℤ) → ReferencesAndLimits (record T { last_moment = m })
  references-moment m = let order = was.ordered in let limits = was.limits in record {
    ordered = record { jobs = order.jobs; triggers = order.triggers; calendars = order.calendars; zones = order.zones; paused_groups = order.paused_groups; paused_job_groups = order.paused_job_groups; members = order.members; fired = order.fired };
    stored = was.stored;
    limits = record {
      jobs = limits.jobs;
      triggers = limits.triggers;
      calendars = limits.calendars;
      zones = limits.zones;
      paused_groups = limits.paused_groups;
      paused_job_groups = limits.paused_job_groups;
      members = limits.members;
      fired = limits.fired;
      next_entry = limits.next_entry;
      next_epoch = limits.next_epoch;
      threshold = limits.threshold;
      horizon = limits.horizon;
      group_names = limits.group_names;
      job_group_names = limits.job_group_names;
    };
  }

  pub references-threshold : (ms : ℤ) → IsTrue (is_interval ms) → ReferencesAndLimits (record T { threshold = ms })
  references-threshold ms is = let order = was.ordered in let limits = was.limits in record {
    ordered = record { jobs = order.jobs; triggers = order.triggers; calendars = order.calendars; zones = order.zones; paused_groups = order.paused_groups; paused_job_groups = order.paused_job_groups; members = order.members; fired = order.fired };
    stored = was.stored;
    limits = record {
      jobs = limits.jobs;
      triggers = limits.triggers;
      calendars = limits.calendars;
      zones = limits.zones;
      paused_groups = limits.paused_groups;
      paused_job_groups = limits.paused_job_groups;
      members = limits.members;
      fired = limits.fired;
      next_entry = limits.next_entry;
      next_epoch = limits.next_epoch;
      threshold = is;
      horizon = limits.horizon;
      group_names = limits.group_names;
      job_group_names = limits.job_group_names;
    };
  }

  pub references-horizon : (horizon : ℤ) → IsHorizon horizon → ReferencesAndLimits (record T { horizon = horizon })
  references-horizon horizon is = let order = was.ordered in let limits = was.limits in record {
    ordered = record { jobs = order.jobs; triggers = order.triggers; calendars = order.calendars; zones = order.zones; paused_groups = order.paused_groups; paused_job_groups = order.paused_job_groups; members = order.members; fired = order.fired };
    stored = was.stored;
    limits = record {
      jobs = limits.jobs;
      triggers = limits.triggers;
      calendars = limits.calendars;
      zones = limits.zones;
      paused_groups = limits.paused_groups;
      paused_job_groups = limits.paused_job_groups;
      members = limits.members;
      fired = limits.fired;
      next_entry = limits.next_entry;
      next_epoch = limits.next_epoch;
      threshold = limits.threshold;
      horizon = is;
      group_names = limits.group_names;
      job_group_names = limits.job_group_names;
    };
  }

  pub references-jobs : (jobs : List JobData) → IsAscending key_cmp (λ r. r.key) jobs → AreStored jobs T.triggers T.calendars T.zones → length jobs ≤ JOB_LIMIT
      → ReferencesAndLimits (record T { jobs = jobs })
  references-jobs jobs ordered stored short = let order = was.ordered in let limits = was.limits in record {
    ordered = record { jobs = ordered; triggers = order.triggers; calendars = order.calendars; zones = order.zones; paused_groups = order.paused_groups; paused_job_groups = order.paused_job_groups; members = order.members; fired = order.fired };
    stored = stored;
    limits = record {
      jobs = short;
      triggers = limits.triggers;
      calendars = limits.calendars;
      zones = limits.zones;
      paused_groups = limits.paused_groups;
      paused_job_groups = limits.paused_job_groups;
      members = limits.members;
      fired = limits.fired;
      next_entry = limits.next_entry;
      next_epoch = limits.next_epoch;
      threshold = limits.threshold;
      horizon = limits.horizon;
      group_names = limits.group_names;
      job_group_names = limits.job_group_names;
    };
  }

  pub references-triggers : (triggers : List TriggerData) → IsAscending key_cmp (λ r. r.spec.key) triggers → AreStored T.jobs triggers T.calendars T.zones → length triggers ≤ TRIGGER_LIMIT
      → ReferencesAndLimits (record T { triggers = triggers })
  references-triggers triggers ordered stored short = let order = was.ordered in let limits = was.limits in record {
    ordered = record { jobs = order.jobs; triggers = ordered; calendars = order.calendars; zones = order.zones; paused_groups = order.paused_groups; paused_job_groups = order.paused_job_groups; members = order.members; fired = order.fired };
    stored = stored;
    limits = record {
      jobs = limits.jobs;
      triggers = short;
      calendars = limits.calendars;
      zones = limits.zones;
      paused_groups = limits.paused_groups;
      paused_job_groups = limits.paused_job_groups;
      members = limits.members;
      fired = limits.fired;
      next_entry = limits.next_entry;
      next_epoch = limits.next_epoch;
      threshold = limits.threshold;
      horizon = limits.horizon;
      group_names = limits.group_names;
      job_group_names = limits.job_group_names;
    };
  }

  pub references-members : (members : List MemberData) (epoch : ℕ) → IsAscending text_cmp (λ r. r.node) members → length members ≤ MEMBER_LIMIT → epoch ≤ NUMBER_LIMIT
      → ReferencesAndLimits (record T { members = members; next_epoch = epoch })
  references-members members epoch ordered short number = let order = was.ordered in let limits = was.limits in record {
    ordered = record { jobs = order.jobs; triggers = order.triggers; calendars = order.calendars; zones = order.zones; paused_groups = order.paused_groups; paused_job_groups = order.paused_job_groups; members = ordered; fired = order.fired };
    stored = was.stored;
    limits = record {
      jobs = limits.jobs;
      triggers = limits.triggers;
      calendars = limits.calendars;
      zones = limits.zones;
      paused_groups = limits.paused_groups;
      paused_job_groups = limits.paused_job_groups;
      members = short;
      fired = limits.fired;
      next_entry = limits.next_entry;
      next_epoch = number;
      threshold = limits.threshold;
      horizon = limits.horizon;
      group_names = limits.group_names;
      job_group_names = limits.job_group_names;
    };
  }

  pub references-fired : (fired : List FiredData) (entry : ℕ) → IsAscending nat_cmp (λ r. r.entry) fired → length fired ≤ FIRED_LIMIT → entry ≤ NUMBER_LIMIT
      → ReferencesAndLimits (record T { fired = fired; next_entry = entry })
  references-fired fired entry ordered short number = let order = was.ordered in let limits = was.limits in record {
    ordered = record { jobs = order.jobs; triggers = order.triggers; calendars = order.calendars; zones = order.zones; paused_groups = order.paused_groups; paused_job_groups = order.paused_job_groups; members = order.members; fired = ordered };
    stored = was.stored;
    limits = record {
      jobs = limits.jobs;
      triggers = limits.triggers;
      calendars = limits.calendars;
      zones = limits.zones;
      paused_groups = limits.paused_groups;
      paused_job_groups = limits.paused_job_groups;
      members = limits.members;
      fired = short;
      next_entry = number;
      next_epoch = limits.next_epoch;
      threshold = limits.threshold;
      horizon = limits.horizon;
      group_names = limits.group_names;
      job_group_names = limits.job_group_names;
    };
  }

  pub references-groups : (groups : List (List ℕ)) → IsAscending text_cmp (λ r. r) groups → length groups ≤ GROUP_LIMIT → AreNames groups → ReferencesAndLimits (record T { paused_groups = groups })
  references-groups groups ordered short named = let order = was.ordered in let limits = was.limits in record {
    ordered = record { jobs = order.jobs; triggers = order.triggers; calendars = order.calendars; zones = order.zones; paused_groups = ordered; paused_job_groups = order.paused_job_groups; members = order.members; fired = order.fired };
    stored = was.stored;
    limits = record {
      jobs = limits.jobs;
      triggers = limits.triggers;
      calendars = limits.calendars;
      zones = limits.zones;
      paused_groups = short;
      paused_job_groups = limits.paused_job_groups;
      members = limits.members;
      fired = limits.fired;
      next_entry = limits.next_entry;
      next_epoch = limits.next_epoch;
      threshold = limits.threshold;
      horizon = limits.horizon;
      group_names = named;
      job_group_names = limits.job_group_names;
    };
  }

  pub references-job_groups : (groups : List (List ℕ)) → IsAscending text_cmp (λ r. r) groups → length groups ≤ JOB_GROUP_LIMIT → AreNames groups → ReferencesAndLimits (record T { paused_job_groups = groups })
  references-job_groups groups ordered short named = let order = was.ordered in let limits = was.limits in record {
    ordered = record { jobs = order.jobs; triggers = order.triggers; calendars = order.calendars; zones = order.zones; paused_groups = order.paused_groups; paused_job_groups = ordered; members = order.members; fired = order.fired };
    stored = was.stored;
    limits = record {
      jobs = limits.jobs;
      triggers = limits.triggers;
      calendars = limits.calendars;
      zones = limits.zones;
      paused_groups = limits.paused_groups;
      paused_job_groups = short;
      members = limits.members;
      fired = limits.fired;
      next_entry = limits.next_entry;
      next_epoch = limits.next_epoch;
      threshold = limits.threshold;
      horizon = limits.horizon;
      group_names = limits.group_names;
      job_group_names = named;
    };
  }

  pub references-calendars : (calendars : List CalendarData) → IsAscending text_cmp (λ r. r.name) calendars → AreStored T.jobs T.triggers calendars T.zones → length calendars ≤ CALENDAR_LIMIT
      → ReferencesAndLimits (record T { calendars = calendars })
  references-calendars calendars ordered stored short = let order = was.ordered in let limits = was.limits in record {
    ordered = record { jobs = order.jobs; triggers = order.triggers; calendars = ordered; zones = order.zones; paused_groups = order.paused_groups; paused_job_groups = order.paused_job_groups; members = order.members; fired = order.fired };
    stored = stored;
    limits = record {
      jobs = limits.jobs;
      triggers = limits.triggers;
      calendars = short;
      zones = limits.zones;
      paused_groups = limits.paused_groups;
      paused_job_groups = limits.paused_job_groups;
      members = limits.members;
      fired = limits.fired;
      next_entry = limits.next_entry;
      next_epoch = limits.next_epoch;
      threshold = limits.threshold;
      horizon = limits.horizon;
      group_names = limits.group_names;
      job_group_names = limits.job_group_names;
    };
  }

  pub references-zones : (zones : List ZoneData) → IsAscending text_cmp (λ r. r.name) zones → AreStored T.jobs T.triggers T.calendars zones → length zones ≤ ZONE_LIMIT
      → ReferencesAndLimits (record T { zones = zones })
  references-zones zones ordered stored short = let order = was.ordered in let limits = was.limits in record {
    ordered = record { jobs = order.jobs; triggers = order.triggers; calendars = order.calendars; zones = ordered; paused_groups = order.paused_groups; paused_job_groups = order.paused_job_groups; members = order.members; fired = order.fired };
    stored = stored;
    limits = record {
      jobs = limits.jobs;
      triggers = limits.triggers;
      calendars = limits.calendars;
      zones = short;
      paused_groups = limits.paused_groups;
      paused_job_groups = limits.paused_job_groups;
      members = limits.members;
      fired = limits.fired;
      next_entry = limits.next_entry;
      next_epoch = limits.next_epoch;
      threshold = limits.threshold;
      horizon = limits.horizon;
      group_names = limits.group_names;
      job_group_names = limits.job_group_names;
    };
  }
