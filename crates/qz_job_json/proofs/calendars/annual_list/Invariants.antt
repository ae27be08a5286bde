use Rattle.std.proofs.Common.{◌≡◌, take}
use Rattle.qz_job_json.proofs.calendars.annual_list.Given as goal

abbrev pub invariant-loop-day : goal.invariant-loop-day
invariant-loop-day l = l.list ≡ take l.day-index l.days
