use Rattle.std.proofs.Common.{◌∙◌, length, sym, ap, subst, arith}
use Rattle.std.specs.Ordering.{nat_cmp}
use Rattle.qz_types.specs.Sorted.{IsAscending}
use Rattle.qz_types.specs.Tables.{SchedulerTables}
use Rattle.qz_types.specs.Words.{key_cmp, text_cmp}
use Rattle.qz_tables.specs.declared.tables.RowCounts.{RowCounts}
use Rattle.qz_snapshot.proofs.Filled.{all_filled}
use Rattle.qz_snapshot.proofs.filling.fill.Goals as goal

pub fill_jobs-requires : goal.fill_jobs-requires
fill_jobs-requires c = record {
  none = ap (λ (T : SchedulerTables). T.jobs) c.reserve_each.ensures.tables
      ∙ ap (λ (T : SchedulerTables). T.jobs) c.new-tables.ensures.tables;
  ascending = subst (λ (T : SchedulerTables). IsAscending key_cmp (λ r. r.key) T.jobs) (sym c.parts.view_is) c.requires.jobs;
  room = omega (arith, ap (λ (T : SchedulerTables). length T.jobs) c.parts.view_is, ap (λ (r : RowCounts). r.jobs) c.count_rows-counts.ensures, c.in_default.ensures.room.jobs);
}

pub fill_triggers-requires : goal.fill_triggers-requires
fill_triggers-requires c = record {
  none = ap (λ (T : SchedulerTables). T.triggers) c.fill_jobs.ensures.tables
      ∙ ap (λ (T : SchedulerTables). T.triggers) c.reserve_each.ensures.tables
      ∙ ap (λ (T : SchedulerTables). T.triggers) c.new-tables.ensures.tables;
  ascending = subst (λ (T : SchedulerTables). IsAscending key_cmp (λ r. r.spec.key) T.triggers) (sym c.parts.view_is) c.requires.triggers;
  room = omega (arith, ap (λ (T : SchedulerTables). length T.triggers) c.parts.view_is, ap (λ (r : RowCounts). r.triggers) c.count_rows-counts.ensures, c.in_default.ensures.room.triggers, c.fill_jobs.ensures.spare.triggers);
}

pub fill_calendars-requires : goal.fill_calendars-requires
fill_calendars-requires c = record {
  none = ap (λ (T : SchedulerTables). T.calendars) c.fill_triggers.ensures.tables
      ∙ ap (λ (T : SchedulerTables). T.calendars) c.fill_jobs.ensures.tables
      ∙ ap (λ (T : SchedulerTables). T.calendars) c.reserve_each.ensures.tables
      ∙ ap (λ (T : SchedulerTables). T.calendars) c.new-tables.ensures.tables;
  ascending = subst (λ (T : SchedulerTables). IsAscending text_cmp (λ r. r.name) T.calendars) (sym c.parts.view_is) c.requires.calendars;
  room = omega (arith, ap (λ (T : SchedulerTables). length T.calendars) c.parts.view_is, ap (λ (r : RowCounts). r.calendars) c.count_rows-counts.ensures, c.in_default.ensures.room.calendars, c.fill_jobs.ensures.spare.calendars, c.fill_triggers.ensures.spare.calendars);
}

pub fill_zones-requires : goal.fill_zones-requires
fill_zones-requires c = record {
  none = ap (λ (T : SchedulerTables). T.zones) c.fill_calendars.ensures.tables
      ∙ ap (λ (T : SchedulerTables). T.zones) c.fill_triggers.ensures.tables
      ∙ ap (λ (T : SchedulerTables). T.zones) c.fill_jobs.ensures.tables
      ∙ ap (λ (T : SchedulerTables). T.zones) c.reserve_each.ensures.tables
      ∙ ap (λ (T : SchedulerTables). T.zones) c.new-tables.ensures.tables;
  ascending = subst (λ (T : SchedulerTables). IsAscending text_cmp (λ r. r.name) T.zones) (sym c.parts.view_is) c.requires.zones;
  room = omega (arith, ap (λ (T : SchedulerTables). length T.zones) c.parts.view_is, ap (λ (r : RowCounts). r.zones) c.count_rows-counts.ensures, c.in_default.ensures.room.zones, c.fill_jobs.ensures.spare.zones, c.fill_triggers.ensures.spare.zones, c.fill_calendars.ensures.spare.zones);
}

pub fill_paused_groups-requires : goal.fill_paused_groups-requires
fill_paused_groups-requires c = record {
  none = ap (λ (T : SchedulerTables). T.paused_groups) c.fill_zones.ensures.tables
      ∙ ap (λ (T : SchedulerTables). T.paused_groups) c.fill_calendars.ensures.tables
      ∙ ap (λ (T : SchedulerTables). T.paused_groups) c.fill_triggers.ensures.tables
      ∙ ap (λ (T : SchedulerTables). T.paused_groups) c.fill_jobs.ensures.tables
      ∙ ap (λ (T : SchedulerTables). T.paused_groups) c.reserve_each.ensures.tables
      ∙ ap (λ (T : SchedulerTables). T.paused_groups) c.new-tables.ensures.tables;
  ascending = subst (λ (T : SchedulerTables). IsAscending text_cmp (λ r. r) T.paused_groups) (sym c.parts.view_is) c.requires.paused_groups;
  room = omega (arith, ap (λ (T : SchedulerTables). length T.paused_groups) c.parts.view_is, ap (λ (r : RowCounts). r.paused_groups) c.count_rows-counts.ensures, c.in_default.ensures.room.paused_groups, c.fill_jobs.ensures.spare.paused_groups, c.fill_triggers.ensures.spare.paused_groups, c.fill_calendars.ensures.spare.paused_groups, c.fill_zones.ensures.spare.paused_groups);
}

pub fill_paused_job_groups-requires : goal.fill_paused_job_groups-requires
fill_paused_job_groups-requires c = record {
  none = ap (λ (T : SchedulerTables). T.paused_job_groups) c.fill_paused_groups.ensures.tables
      ∙ ap (λ (T : SchedulerTables). T.paused_job_groups) c.fill_zones.ensures.tables
      ∙ ap (λ (T : SchedulerTables). T.paused_job_groups) c.fill_calendars.ensures.tables
      ∙ ap (λ (T : SchedulerTables). T.paused_job_groups) c.fill_triggers.ensures.tables
      ∙ ap (λ (T : SchedulerTables). T.paused_job_groups) c.fill_jobs.ensures.tables
      ∙ ap (λ (T : SchedulerTables). T.paused_job_groups) c.reserve_each.ensures.tables
      ∙ ap (λ (T : SchedulerTables). T.paused_job_groups) c.new-tables.ensures.tables;
  ascending = subst (λ (T : SchedulerTables). IsAscending text_cmp (λ r. r) T.paused_job_groups) (sym c.parts.view_is) c.requires.paused_job_groups;
  room = omega (arith, ap (λ (T : SchedulerTables). length T.paused_job_groups) c.parts.view_is, ap (λ (r : RowCounts). r.paused_job_groups) c.count_rows-counts.ensures, c.in_default.ensures.room.paused_job_groups, c.fill_jobs.ensures.spare.paused_job_groups, c.fill_triggers.ensures.spare.paused_job_groups, c.fill_calendars.ensures.spare.paused_job_groups, c.fill_zones.ensures.spare.paused_job_groups, c.fill_paused_groups.ensures.spare.paused_job_groups);
}

pub fill_members-requires : goal.fill_members-requires
fill_members-requires c = record {
  none = ap (λ (T : SchedulerTables). T.members) c.fill_paused_job_groups.ensures.tables
      ∙ ap (λ (T : SchedulerTables). T.members) c.fill_paused_groups.ensures.tables
      ∙ ap (λ (T : SchedulerTables). T.members) c.fill_zones.ensures.tables
      ∙ ap (λ (T : SchedulerTables). T.members) c.fill_calendars.ensures.tables
      ∙ ap (λ (T : SchedulerTables). T.members) c.fill_triggers.ensures.tables
      ∙ ap (λ (T : SchedulerTables). T.members) c.fill_jobs.ensures.tables
      ∙ ap (λ (T : SchedulerTables). T.members) c.reserve_each.ensures.tables
      ∙ ap (λ (T : SchedulerTables). T.members) c.new-tables.ensures.tables;
  ascending = subst (λ (T : SchedulerTables). IsAscending text_cmp (λ r. r.node) T.members) (sym c.parts.view_is) c.requires.members;
  room = omega (arith, ap (λ (T : SchedulerTables). length T.members) c.parts.view_is, ap (λ (r : RowCounts). r.members) c.count_rows-counts.ensures, c.in_default.ensures.room.members, c.fill_jobs.ensures.spare.members, c.fill_triggers.ensures.spare.members, c.fill_calendars.ensures.spare.members, c.fill_zones.ensures.spare.members, c.fill_paused_groups.ensures.spare.members, c.fill_paused_job_groups.ensures.spare.members);
}

pub fill_fired-requires : goal.fill_fired-requires
fill_fired-requires c = record {
  none = ap (λ (T : SchedulerTables). T.fired) c.fill_members.ensures.tables
      ∙ ap (λ (T : SchedulerTables). T.fired) c.fill_paused_job_groups.ensures.tables
      ∙ ap (λ (T : SchedulerTables). T.fired) c.fill_paused_groups.ensures.tables
      ∙ ap (λ (T : SchedulerTables). T.fired) c.fill_zones.ensures.tables
      ∙ ap (λ (T : SchedulerTables). T.fired) c.fill_calendars.ensures.tables
      ∙ ap (λ (T : SchedulerTables). T.fired) c.fill_triggers.ensures.tables
      ∙ ap (λ (T : SchedulerTables). T.fired) c.fill_jobs.ensures.tables
      ∙ ap (λ (T : SchedulerTables). T.fired) c.reserve_each.ensures.tables
      ∙ ap (λ (T : SchedulerTables). T.fired) c.new-tables.ensures.tables;
  ascending = subst (λ (T : SchedulerTables). IsAscending nat_cmp (λ r. r.entry) T.fired) (sym c.parts.view_is) c.requires.fired;
  room = omega (arith, ap (λ (T : SchedulerTables). length T.fired) c.parts.view_is, ap (λ (r : RowCounts). r.fired) c.count_rows-counts.ensures, c.in_default.ensures.room.fired, c.fill_jobs.ensures.spare.fired, c.fill_triggers.ensures.spare.fired, c.fill_calendars.ensures.spare.fired, c.fill_zones.ensures.spare.fired, c.fill_paused_groups.ensures.spare.fired, c.fill_paused_job_groups.ensures.spare.fired, c.fill_members.ensures.spare.fired);
}

pub returns : goal.returns
returns c =
    let filled : SchedulerTables = record {
      jobs = c.parts.inside.jobs.items;
      triggers = c.parts.inside.triggers.items;
      calendars = c.parts.inside.calendars.items;
      zones = c.parts.inside.zones.items;
      paused_groups = c.parts.inside.paused_groups.items;
      paused_job_groups = c.parts.inside.paused_job_groups.items;
      members = c.parts.inside.members.items;
      fired = c.parts.inside.fired.items;
      next_entry = c.parts.inside.numbers.next_entry;
      next_epoch = c.parts.inside.numbers.next_epoch;
      threshold = c.parts.inside.numbers.threshold;
      last_moment = c.parts.inside.numbers.last_moment;
      horizon = c.parts.inside.numbers.horizon;
    } in
    all_filled filled c.reserve_each.new.self.tables c.fill_jobs.new.tables.tables c.fill_triggers.new.tables.tables c.fill_calendars.new.tables.tables c.fill_zones.new.tables.tables c.fill_paused_groups.new.tables.tables c.fill_paused_job_groups.new.tables.tables c.fill_members.new.tables.tables c.fill_fired.new.tables.tables c.set_numbers.new.tables.tables
    c.fill_jobs.ensures.tables c.fill_triggers.ensures.tables c.fill_calendars.ensures.tables c.fill_zones.ensures.tables c.fill_paused_groups.ensures.tables c.fill_paused_job_groups.ensures.tables c.fill_members.ensures.tables c.fill_fired.ensures.tables c.set_numbers.ensures ∙ c.parts.view_is
