-- Rows that aren't found.
use Rattle.std.proofs.Common.{◌≡◌, List, None}
use Rattle.qz_types.specs.Rows.{JobData, TriggerData, ZoneData}
use Rattle.qz_types.specs.declared.keys.Key.{Key}
use Rattle.qz_types.specs.Tables.{SchedulerTables}
use Rattle.qz_types.specs.Words.{job_of, without_job, trigger_of, without_trigger, zone_of}
use Rattle.qz_model.specs.Calendars.{add_zone_refusal}
use Rattle.qz_model.specs.Plan.{is_known_zone}
use Rattle.qz_model.proofs.Refusals.{not_refused}
use Rattle.qz_model.proofs.RowLaws.{job_of-without_own, trigger_of-without_own}
use Rattle.qz_schedule.proofs.Counting.{new_zone}

pub no_job : (k : Key) (rows : List JobData) → job_of k (without_job k rows) ≡ None
no_job k rows = job_of-without_own k rows

pub no_trigger : (k : Key) (rows : List TriggerData) → trigger_of k (without_trigger k rows) ≡ None
no_trigger k rows = trigger_of-without_own k rows

-- nor is a zone that nothing refuses
pub no_zone : (T : SchedulerTables) (z : ZoneData) → add_zone_refusal T z ≡ None → zone_of z.name T.zones ≡ None
unfolding add_zone_refusal
no_zone T z clear = new_zone T.zones z.name (not_refused (is_known_zone T.zones z.name) _ _ clear).0
