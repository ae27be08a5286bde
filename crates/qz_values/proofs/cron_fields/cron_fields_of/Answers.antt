use Rattle.std.proofs.Common.{◌≡◌, Bool, true, false, not, if◌then◌else◌, arith}
use Rattle.std.specs.Prelude.{IsTrue}
use Rattle.qz_civil.specs.Fields.{is_time_fields, is_date_fields}
use Rattle.qz_values.proofs.Truths.{both_true}
use Rattle.qz_values.proofs.cron_fields.cron_fields_of.Goals as goal

-- where the month's days say something, the week's don't
just_one : (day week : Bool) → week ≡ not day → IsTrue (if day then not week else week)
just_one true week h = grind arith
just_one false week h = grind arith

pub returns-clause-valid : goal.returns-clause-valid
unfolding is_time_fields is_date_fields
returns-clause-valid c =
    both_true _ _
    (both_true _ _ (both_true _ _ c.in_ok-seconds.ensures.valid c.in_ok-minutes.ensures.valid) c.in_ok-hours.ensures.valid)
    (both_true _ _
    (both_true _ _ (both_true _ _ (both_true _ _ c.in_ok-day.ensures.valid c.in_ok-months.ensures.valid) c.in_ok-week.ensures.valid) c.in_ok-years.ensures.valid)
    (just_one _ _ c.in_ok-week.ensures.one))
