use Rattle.std.proofs.Common.{rules, ◌<◌, get_or}
use Rattle.qz_job_json.proofs.PutLaws.{days_fit}
use Rattle.qz_job_json.proofs.calendars.annual_list.Goals as goal

pub overflow_cast-day : goal.overflow_cast-day
overflow_cast-day c =
    let small : get_or c.args.days.now c.loop-day.day-index 0 < 65536 = days_fit _ _ _ c.requires c.loop-day-test.true in
    search rules
