-- The test of a cron trigger's fire time decides `IsCron`, and that of a daily trigger's decides `IsDaily`.
use Rattle.std.proofs.Common.{◌&&◌, ℤ, pos, ◌≤ℤ◌, List, Option}
use Rattle.std.specs.Prelude.{int_le}
use Rattle.std.specs.Bool.{Decides}
use Rattle.std.proofs.lemmas.Bool.Decides.{Decides-and, Decides-like}
use Rattle.qz_civil.specs.declared.fields.CronFields.{CronFields}
use Rattle.qz_civil.specs.declared.stretches.Stretch.{Stretch}
use Rattle.qz_civil.specs.Fields.{meets}
use Rattle.qz_civil.specs.Zones.{civil}
use Rattle.qz_daily.specs.declared.patterns.Pattern.{Pattern}
use Rattle.qz_daily.specs.Timestamps.{IsDaily, is_time, is_weekday}
use Rattle.qz_plan.specs.Plan.{is_before, is_daily_time, is_up_to, is_whole_second}
use Rattle.qz_plan.specs.Schedule.{IsCron, start_second}
use Rattle.qz_plan.proofs.TestLaws.{int_le-decides, is_before-decides, is_up_to-decides, is_whole_second-decides, true-decides}

pub cron-decides : (fields : CronFields) (zone : List Stretch) (start : ℤ) (end : Option ℤ) (t : ℤ) → pos 0 ≤ℤ t → Decides (is_whole_second t && meets fields (civil zone t) && int_le (start_second start) t && is_up_to end t) (IsCron fields zone start end t)
cron-decides fields zone start end t low =
    Decides-like _
    (λ h. record { meets = record { second = h.0.0.0.second; whole = h.0.0.0.whole; met = h.0.0.1 }; started = h.0.1; before = h.1 })
    (λ h. (((record { second = h.meets.second; whole = h.meets.whole }, h.meets.met), h.started), h.before))
    (Decides-and _ _ (Decides-and _ _ (Decides-and _ _ (is_whole_second-decides t low) (true-decides (meets fields (civil zone t)))) (int_le-decides (start_second start) t)) (is_up_to-decides end t))

pub daily-decides : (start : ℤ) (end : Option ℤ) (p : Pattern) (zone : List Stretch) (t : ℤ) → pos 0 ≤ℤ t → Decides (is_daily_time start p zone t && is_before end t) (IsDaily start end p zone t)
daily-decides start end p zone t low =
    Decides-like _
    (λ h. record { second = h.0.0.0.0.second; whole = h.0.0.0.0.whole; day = h.0.0.0.1; time = h.0.0.1; started = h.0.1; before = h.1 })
    (λ h. ((((record { second = h.second; whole = h.whole }, h.day), h.time), h.started), h.before))
    (Decides-and _ _
    (Decides-and _ _ (Decides-and _ _ (Decides-and _ _ (is_whole_second-decides t low) (true-decides (is_weekday p (civil zone t).weekday))) (true-decides (is_time p (civil zone t).second))) (int_le-decides start t))
    (is_before-decides end t))
